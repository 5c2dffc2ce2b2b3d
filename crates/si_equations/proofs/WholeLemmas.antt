-- What a text without fault spells is whole.
use Rattle.std.proofs.Common.{◌≡◌, ℕ, zero, suc, ◌&&◌, ◌||◌, not, Bool, true, false, List, [], ◌∷◌, ◌++◌, length}
use Rattle.std.proofs.Common.{nat_le, Option, Some, None, Result, Ok, Err, codes, refl, sym, ap, subst, ◌∙◌, inl, inr}
use Rattle.std.proofs.Common.{append_assoc, if◌then◌else◌}
use Rattle.std.proofs.lemmas.Bool.{cases_Bool, or_parts}
use Rattle.std.proofs.lemmas.List.{append-nil, map-append}
use Rattle.si_base.specs.Faults.{when, ◌otherwise◌, first_after, first_in}
use Rattle.si_base.specs.Limits.{max_signals}
use Rattle.si_base.specs.Lines.{numbered}
use Rattle.si_base.specs.Words.{is_signal_name}
use Rattle.si_base.specs.declared.fault.TextKind.{TextKind}
use Rattle.si_base.specs.declared.fault.TextKind.TheVariants.{BadName, Repeated, TooManySignals, Undeclared}
use Rattle.si_words.specs.Ends.{after_last}
use Rattle.si_words.specs.Names.{stands_in, name_fault}
use Rattle.si_words.specs.Sums.{is_empty}
use Rattle.si_tokens.specs.declared.fault.Stop.{Stop}
use Rattle.si_tokens.specs.declared.fault.Stop.TheVariants.{Cut, Fault}
use Rattle.si_tokens.specs.Unread.{◌>>=◌, Unread, Piece, bad_line, tokens, token_at, unread}
use Rattle.si_genlib.specs.Expression.{Tree, trees, start, read}
use Rattle.si_genlib.specs.Gate.{ends_expression}
use Rattle.si_equations.specs.Names.{bare}
use Rattle.si_equations.specs.Equations.{Equation, Equations, driven, signals, without, internal_among, if_good}
use Rattle.si_equations.specs.Equations.{mark_at, list_fault, names_from, list_at, lists_at, equation_fault}
use Rattle.si_equations.specs.Equations.{with_equation, equation_at}
use Rattle.si_equations.specs.Equations.{equations_from, statements_at, undeclared, has_all_outputs, last_fault, unless}
use Rattle.si_equations.specs.Equations.{ended, equations_in}
use Rattle.si_equations.specs.Whole.{repeated, AreWhole}
use Rattle.si_equations.proofs.ListLemmas.{no_fault, when_none, good_push, IsGoodList, AreGoodNames, not_kept}
use Rattle.si_equations.proofs.ListLemmas.{good_lists}
use Rattle.si_equations.proofs.NewLemmas.{stands_append, among_append, inner_head}

-- ---- what went well

-- both parts of a reading gave something
pub bind_ok : {A B : Type 0} (r : Result A Stop) (k : A → Result B Stop) (y : B) → (r >>= k) ≡ Ok y
    → (x : A) × (r ≡ Ok x) × (k x ≡ Ok y)
bind_ok (Ok x) k y is = (x, refl, is)
bind_ok (Err stop) k y is = absurd cc

good_none : (fault : Option TextKind) (p : Piece) (u : Unread) → if_good fault p ≡ Ok u → fault ≡ None
good_none None p u is = refl
good_none (Some kind) p u is = absurd cc

-- ---- the lists

abbrev behind_token : List (List ℕ) → List (List ℕ) → Piece → List Piece → Bool → List ℕ → Option TextKind
    → Result (List (List ℕ) × Unread) Stop
behind_token others names t ts ends name fault =
    if ends then Ok (names, t.rest) else if_good fault t >>= λ rest. names_from others (names ++ name ∷ []) ts

token_whole : (others names : List (List ℕ)) (t : Piece) (ts : List Piece) (all : List (List ℕ)) (r : Unread) (c : Bool)
    (x : List ℕ) (fault : Option TextKind) → list_fault others names x ≡ fault
    → behind_token others names t ts c x fault ≡ Ok (all, r) → IsGoodList others names
    → (names_from others (names ++ x ∷ []) ts ≡ Ok (all, r) → IsGoodList others (names ++ x ∷ [])
    → IsGoodList others all) → IsGoodList others all
token_whole others names t ts all r true x fault is_fault is good later =
    let both : (names, t.rest) ≡ (all, r) = cc in
    subst (IsGoodList others) (ap (λ (p : List (List ℕ) × Unread). p.0) both) good
token_whole others names t ts all r false x None is_fault is good later =
    later is (good_push (list_fault others) [] names x good is_fault)
token_whole others names t ts all r false x (Some kind) is_fault is good later = absurd cc

names_whole : (others names : List (List ℕ)) (ps : List Piece) (all : List (List ℕ)) (r : Unread)
    → names_from others names ps ≡ Ok (all, r) → IsGoodList others names → IsGoodList others all
names_whole others names [] all r is good = absurd cc
names_whole others names (t ∷ ts) all r is good =
    token_whole others names t ts all r (ends_expression t.bytes) (bare t.bytes)
    (list_fault others names (bare t.bytes)) refl is good
    (λ more still. names_whole others (names ++ bare t.bytes ∷ []) ts all r more still)

pub list_whole : (word : List ℕ) (others : List (List ℕ)) (u : Unread) (names : List (List ℕ)) (r : Unread)
    → list_at word others u ≡ Ok (names, r) → IsGoodList others names
unfolding list_at
list_whole word others u names r is =
    let equals = bind_ok (mark_at word u) _ (names, r) is in
    let body = bind_ok (mark_at (codes "=") equals.0) _ (names, r) equals.2 in
    names_whole others [] (tokens body.0) names r body.2 refl

-- ---- the equations

-- what holds of the equations that are read, as far as they are
pub record AreSound (e : Equations) : Type 0 where
  pub names : AreGoodNames (signals e)
  pub once : first_after (repeated e.inputs) [] (driven e) ≡ None

abbrev found : Equations → Unread → Result (Equations × Unread) Stop
found e u = Ok (e, u)

sound_as : (x y : Equations) (r s : Unread) → found x r ≡ found y s → AreSound x → AreSound y
sound_as x y r s same sound =
    let both : (x, r) ≡ (y, s) = cc in subst AreSound (ap (λ (p : Equations × Unread). p.0) both) sound

lists_whole : (u : Unread) (lists : Equations) (r : Unread) → lists_at u ≡ Ok (lists, r) → AreSound lists
unfolding lists_at
lists_whole u lists r is =
    let ins = bind_ok (list_at (codes "INORDER") [] u) _ (lists, r) is in
    let outs = bind_ok (list_at (codes "OUTORDER") ins.0.0 ins.0.1) _ (lists, r) ins.2 in
    let inputs = without outs.0.0 ins.0.0 in
    let made : Equations = record { inputs = inputs; outputs = outs.0.0; equations = [] } in
    let first = list_whole (codes "INORDER") [] u ins.0.0 ins.0.1 ins.1 in
    let second = list_whole (codes "OUTORDER") ins.0.0 ins.0.1 outs.0.0 outs.0.1 outs.1 in
    let sound : AreSound made = record {
      names = subst AreGoodNames (sym (append-nil (inputs ++ outs.0.0))) (good_lists ins.0.0 outs.0.0 first second);
      once = refl;
    } in
    sound_as made lists outs.0.1 r outs.2 sound

module _ (e : Equations) (line : ℕ) (name : List ℕ) (tree : Tree)
    (none : equation_fault e.inputs e.outputs (driven e) name ≡ None) (sound : AreSound e) where
  abbrev more : Equations
  more = with_equation e line name tree

  abbrev lists : List (List ℕ)
  lists = e.inputs ++ e.outputs

  driven_more : driven more ≡ driven e ++ name ∷ []
  driven_more = map-append (λ (q : Equation). q.name) e.equations
      (record { line = line; name = name; tree = tree } ∷ [])

  abbrev too_many : Bool
  too_many = not (stands_in e.outputs name) && nat_le max_signals (length (signals e))

  good : when (not (is_signal_name name)) BadName ≡ None
  good = (no_fault (when (not (is_signal_name name)) BadName)
      (repeated e.inputs (driven e) name otherwise when too_many TooManySignals) none).0

  rest_good : (repeated e.inputs (driven e) name ≡ None) × (when too_many TooManySignals ≡ None)
  rest_good = no_fault (repeated e.inputs (driven e) name) (when too_many TooManySignals)
      (no_fault (when (not (is_signal_name name)) BadName)
      (repeated e.inputs (driven e) name otherwise when too_many TooManySignals) none).1

  new_name : (stands_in e.inputs name ≡ false) × (stands_in (driven e) name ≡ false)
  new_name = or_parts (stands_in e.inputs name) (stands_in (driven e) name)
      (when_none (stands_in e.inputs name || stands_in (driven e) name) Repeated rest_good.0)

  once_more : first_after (repeated e.inputs) [] (driven more) ≡ None
  once_more = subst (λ (l : List (List ℕ)). first_after (repeated e.inputs) [] l ≡ None) (sym driven_more)
      (good_push (repeated e.inputs) [] (driven e) name sound.once rest_good.0)

  signals_more : signals more ≡ signals e ++ internal_among e.outputs (name ∷ [])
  signals_more = ap (λ (l : List (List ℕ)). lists ++ internal_among e.outputs l) driven_more
      ∙ ap (λ (l : List (List ℕ)). lists ++ l) (among_append e.outputs (driven e) (name ∷ []))
      ∙ sym (append_assoc lists (internal_among e.outputs (driven e)) (internal_among e.outputs (name ∷ [])))

  of_output : stands_in e.outputs name ≡ true → AreGoodNames (signals more)
  of_output stands =
      let same : signals more ≡ signals e = signals_more ∙ (rw stands (append-nil (signals e))) in
      subst AreGoodNames (sym same) sound.names

  of_inner : stands_in e.outputs name ≡ false → AreGoodNames (signals more)
  of_inner inner =
      let last : internal_among e.outputs (name ∷ []) ≡ name ∷ [] = inner_head e.outputs name [] inner in
      let fresh : stands_in (signals e) name ≡ false =
      stands_append lists (internal_among e.outputs (driven e)) name
      ∙ ap (λ (c : Bool). c || stands_in (internal_among e.outputs (driven e)) name)
      (stands_append e.inputs e.outputs name ∙ (λ i. new_name.0 i || inner i))
      ∙ not_kept e.outputs (driven e) name new_name.1 in
      let full : too_many ≡ false = when_none too_many TooManySignals rest_good.1 in
      let room : nat_le max_signals (length (signals e)) ≡ false =
      ap (λ (c : Bool). not c && nat_le max_signals (length (signals e))) (sym inner) ∙ full in
      let here : name_fault max_signals (signals e) name ≡ None =
      λ i. good i otherwise when (fresh i) Repeated otherwise when (room i) TooManySignals in
      let all : AreGoodNames (signals e ++ name ∷ []) =
      good_push (name_fault max_signals) [] (signals e) name sound.names here in
      subst AreGoodNames (sym (signals_more ∙ ap (λ (l : List (List ℕ)). signals e ++ l) last)) all

  pub still_sound : AreSound more
  still_sound = elim (cases_Bool (stands_in e.outputs name)) [
    | inl stands ↦ record { names = of_output stands; once = once_more }
    | inr inner ↦ record { names = of_inner inner; once = once_more }
  ]

equation_whole : (old : Equations) (u : Unread) (new : Equations) (r : Unread) → equation_at old u ≡ Ok (new, r)
    → AreSound old → AreSound new
unfolding equation_at
equation_whole old u new r is sound =
    let name = bind_ok (token_at u) _ (new, r) is in
    let fault = equation_fault old.inputs old.outputs (driven old) (bare name.0.bytes) in
    let equals = bind_ok (if_good fault name.0) _ (new, r) name.2 in
    let body = bind_ok (mark_at (codes "=") equals.0) _ (new, r) equals.2 in
    let expression = bind_ok (read trees start (tokens body.0)) _ (new, r) body.2 in
    let made : Equations = with_equation old name.0.line (bare name.0.bytes) expression.0.0 in
    sound_as made new expression.0.1 r expression.2
    (still_sound old name.0.line (bare name.0.bytes) expression.0.0 (good_none fault name.0 equals.0 equals.1) sound)

equations_whole : (fuel : ℕ) (old : Equations) (u : Unread) (e : Equations) → equations_from fuel old u ≡ Ok e
    → AreSound old → AreSound e
equations_whole zero old u e is sound = absurd cc
equations_whole (suc k) old u e is sound =
    by_left (is_empty (tokens u)) is
    (λ new r one more. equations_whole k new r e more (equation_whole old u new r one sound))
  where
    by_left : (c : Bool)
        → (if c then Ok old else equation_at old u >>= λ new. equations_from k new.0 new.1) ≡ Ok e
        → ((new : Equations) (r : Unread) → equation_at old u ≡ Ok (new, r) → equations_from k new r ≡ Ok e
        → AreSound e) → AreSound e
    by_left true same later = (let here : old ≡ e = cc in subst AreSound here sound)
    by_left false same later =
        let one = bind_ok (equation_at old u) (λ new. equations_from k new.0 new.1) e same in
        later one.0.0 one.0.1 one.1 one.2

statements_whole : (u : Unread) (e : Equations) → statements_at u ≡ Ok e → AreSound e
unfolding statements_at
statements_whole u e is =
    let lists = bind_ok (lists_at u) _ e is in
    equations_whole (suc (length (tokens lists.0.1))) lists.0.0 lists.0.1 e lists.2
    (lists_whole u lists.0.0 lists.0.1 lists.1)

-- ---- the whole text

abbrev missing : ℕ → Bool → Option (ℕ × TextKind)
missing last there = if there then None else Some (last, Undeclared)

none_missing : (last : ℕ) (there : Bool) → missing last there ≡ None → there ≡ true
none_missing last true none = refl
none_missing last false none = absurd cc

last_whole : (last : ℕ) (e : Equations) → AreSound e → last_fault last e ≡ None → AreWhole e
last_whole last e sound none =
    let parts = no_fault (first_in (undeclared (signals e)) e.equations) (missing last (has_all_outputs e)) none in
    record {
      names = sound.names;
      once = sound.once;
      outputs = none_missing last (has_all_outputs e) parts.1;
      known = parts.0;
    }

unless_none : (f : Option (ℕ × TextKind)) (x e : Equations) → unless f x ≡ Ok e → (f ≡ None) × (x ≡ e)
unless_none None x e is = (refl, cc)
unless_none (Some fault) x e is = absurd cc

pub ended_whole : (last : ℕ) (bad : Option ℕ) (r : Result Equations Stop) (e : Equations) → ended last bad r ≡ Ok e
    → ((x : Equations) → r ≡ Ok x → AreSound x) → AreWhole e
ended_whole last None (Ok x) e is sound =
    let parts = unless_none (last_fault last x) x e is in
    subst AreWhole parts.1 (last_whole last x (sound x refl) parts.0)
ended_whole last None (Err Cut) e is sound = absurd cc
ended_whole last None (Err (Fault line kind)) e is sound = absurd cc
ended_whole last (Some line) (Ok x) e is sound = absurd cc
ended_whole last (Some line) (Err Cut) e is sound = absurd cc
ended_whole last (Some line) (Err (Fault at kind)) e is sound = absurd cc

pub text_whole : (text : List ℕ) (e : Equations) → equations_in text ≡ Ok e → AreWhole e
unfolding equations_in
text_whole text e is = ended_whole (after_last text) (bad_line (numbered text)) (statements_at (unread text)) e is
    (λ x read. statements_whole (unread text) x read)
