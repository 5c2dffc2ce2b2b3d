-- What insertions keep, and the lines of all parts in a row.
use Rattle.std.proofs.Common.{◌≡◌, ℕ, zero, suc, ◌+◌, ◌<◌, List, [], ◌∷◌, ◌++◌, get_or, length, map, zip, All, IsTrue}
use Rattle.std.proofs.Common.{slice_index, Some, refl, sym, ap, subst, ◌∙◌, arith}
use Rattle.std.proofs.lemmas.List.{get_or-map, length-map}
use Rattle.std.proofs.lemmas.List.Elements.{All-append, All-cons, All-filter, All-map, All-nil}
use Rattle.std.proofs.lemmas.Option.{slice_get-get_or}
use Rattle.si_base.specs.declared.graph.Signal.{Signal}
use Rattle.si_base.specs.declared.graph.SigKind.TheVariants.{Inserted}
use Rattle.si_base.specs.GivenGraph.{Sg}
use Rattle.si_base.specs.Netlist.{Insertion, Netlist}
use Rattle.si_base.specs.NetlistText.{names_of, same_kind}
use Rattle.si_base.specs.WellFormed.{IsNetlist}
use Rattle.si_base.specs.Words.{is_signal_name}
use Rattle.si_insert.specs.Insertion.{new_signal}
use Rattle.si_insert.specs.Lineage.{Extends, History}
use Rattle.si_insert.specs.declared.lineage.TraceStep.{TraceStep}
use Rattle.si_joins.specs.Lifted.{names_in_part}
use Rattle.si_joins.specs.Loops.Parts.{AreAllShown, AreLinesNamed, AreNamed, AreShown, Goes}
use Rattle.si_joins.specs.Steps.{numbered}
use Rattle.si_sg.specs.CanonicalText.{state_at}

-- ---- one insertion
abbrev HasName : Signal → Type 0
HasName x = IsTrue (is_signal_name x.name)

pub named_next : (l : History) (p : TraceStep) (m : History) → Extends l p m
    → AreNamed l.current.coded.graph.signals → IsTrue (is_signal_name p.name) → AreNamed m.current.coded.graph.signals
named_next l p m is named own =
    let old = l.current.coded.graph.signals in
    let new = new_signal p.name in
    let same : m.current.coded.graph.signals ≡ old ++ new ∷ [] =
    ap (λ u. u.coded.graph.signals) is.inserts.makes ∙ is.inserts.insertion.signals in
    subst AreNamed (sym same) (All-append HasName old (new ∷ []) named (All-cons HasName new [] own (All-nil HasName)))

pub goes_same : (l : History) → Goes l l
goes_same l = record { given = refl; more = omega arith }

pub goes_on : (l m w : History) → Goes l m → Goes m w → Goes l w
goes_on l m w first then = record {
  given = then.given ∙ first.given;
  more = (let low = first.more in let high = then.more in omega (arith, low, high));
}

-- ---- the lines of a netlist have names of signals
unmapped : {X Y : Type 0} (P : Y → Type 0) (f : X → Y) (xs : List X) → All P (map f xs) → All (λ x. P (f x)) xs
unmapped P f xs all k d below =
    subst P (get_or-map f xs k d (f d) below) (all k (f d) (omega (arith, below, length-map xs f)))

pub lines_named : (n : Netlist) → IsNetlist n → AreLinesNamed n.inserts
lines_named n is =
    let P : List ℕ → Type 0 = λ w. IsTrue (is_signal_name w) in
    let kept = All-filter (λ (x : Signal). same_kind Inserted x.kind) HasName n.signals is.names in
    let names : All P (names_of Inserted n.signals) = All-map P (λ (x : Signal). x.name) _ kept in
    unmapped P (λ (i : Insertion). i.name) n.inserts (subst (λ (ws : List (List ℕ)). All P ws) (sym is.insert_names) names)

-- ---- parts in a row
pub numbered_many : {X : Type 0} (i : ℕ) (xs : List X) → length (numbered i xs) ≡ length xs
numbered_many i [] = refl
numbered_many i (x ∷ xs) = ap suc (numbered_many (i + 1) xs)

numbered_from : {X : Type 0} (i : ℕ) (xs : List X) (k j : ℕ) (x : X) → k < length xs → x ≡ get_or xs k x → j ≡ i + k
    → (j, x) ≡ get_or (numbered i xs) k (j, x)
numbered_from i [] k j x below at is = absurd (omega (arith, below))
numbered_from {X} i (y ∷ xs) zero j x below at is =
    let same : j ≡ i = omega (arith, is) in
    ap (λ (n : ℕ). (n, x)) same ∙ ap (λ (z : X). (i, z)) at
numbered_from i (y ∷ xs) (suc k) j x below at is =
    numbered_from (i + 1) xs k j x (omega (arith, below)) at (omega (arith, is))

pub numbered_at : {X : Type 0} (xs : List X) (k : ℕ) (x : X) → k < length xs → x ≡ get_or xs k x
    → (k, x) ≡ get_or (numbered 0 xs) k (k, x)
numbered_at xs k x below at = numbered_from 0 xs k k x below at (omega arith)

pub zipped_at : {X Y : Type 0} (xs : List X) (ys : List Y) (k : ℕ) (x : X) (y : Y) → k < length xs → k < length ys
    → x ≡ get_or xs k x → y ≡ get_or ys k y → (x, y) ≡ get_or (zip xs ys) k (x, y)
zipped_at [] ys k x y below inside at_x at_y = absurd (omega (arith, below))
zipped_at (a ∷ xs) [] k x y below inside at_x at_y = absurd (omega (arith, inside))
zipped_at {X} {Y} (a ∷ xs) (b ∷ ys) zero x y below inside at_x at_y =
    ap (λ (u : X). (u, y)) at_x ∙ ap (λ (v : Y). (a, v)) at_y
zipped_at (a ∷ xs) (b ∷ ys) (suc k) x y below inside at_x at_y =
    zipped_at xs ys k x y (omega (arith, below)) (omega (arith, inside)) at_x at_y

pub part_shown : (given : List Sg) (k : ℕ) (tuples : List (List ℕ)) (g : Sg) → AreAllShown given tuples
    → k < length given → g ≡ get_or given k g → AreShown g.states k tuples
part_shown given k tuples g are below at = are k g below (slice_get-get_or given k g below ∙ ap Some (sym at))

pub names_many : (states : List (List ℕ)) (i : ℕ) (tuples : List (List ℕ))
    → length (names_in_part states i tuples) ≡ length tuples
names_many states i tuples = length-map tuples (λ (xs : List ℕ). state_at states (slice_index xs i))
