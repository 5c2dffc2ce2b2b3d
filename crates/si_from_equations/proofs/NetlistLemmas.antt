-- The netlist of equations beside a graph is a netlist.
use Rattle.std.proofs.Common.{◌≡◌, ◌≢◌, ℕ, ◌+◌, ◌*◌, ◌-◌, ◌<◌, ◌≤◌, ◌^◌, ◌==◌, ◌&&◌, not, Bool, true, false, List, []}
use Rattle.std.proofs.Common.{◌∷◌, length, map, flat_map, All, Option, Some, None, codes, get_or, unwrap_or}
use Rattle.std.proofs.Common.{refl, sym, ap, subst, ◌∙◌, arith}
use Rattle.std.specs.List.{list_all}
use Rattle.std.proofs.lemmas.Bool.{and_parts, false≢true}
use Rattle.std.proofs.lemmas.List.{length-map, length-append}
use Rattle.std.proofs.lemmas.List.Elements.{All-cons, All-map, All-nil}
use Rattle.std.proofs.Math.Nat.{pow-le-pow_right}
use Rattle.si_base.specs.Bytes.{first_visible, hash, opening_brace, closing_brace, tilde}
use Rattle.si_base.specs.declared.graph.Signal.{Signal}
use Rattle.si_base.specs.declared.graph.SigKind.{SigKind}
use Rattle.si_base.specs.declared.graph.SigKind.TheVariants.{Input, Output, Internal, Inserted}
use Rattle.si_base.specs.Codes.{CodedGraph, IsCoded, code}
use Rattle.si_base.specs.GivenGraph.{signals_of}
use Rattle.si_base.specs.Graph.{names_in}
use Rattle.si_base.specs.Netlist.{Gate, Insertion, Netlist, Sum}
use Rattle.si_base.specs.NetlistText.{names_of}
use Rattle.si_base.specs.System.{IsFor}
use Rattle.si_base.specs.WellFormed.{IsGate, IsInsertion, IsNetlist, IsSum, IsCube, IsWord}
use Rattle.si_base.specs.Words.{is_between, is_model_name, is_word_byte}
use Rattle.si_base.proofs.StepCodes.{code_fits}
use Rattle.si_genlib.specs.Expression.{Tree}
use Rattle.si_equations.specs.Equations.{Equations}
use Rattle.si_equations.specs.Whole.{AreWhole}
use Rattle.si_from_equations.specs.Beside.{all_signals, expression_of, gate_for, gated, hidden_names, lists_place}
use Rattle.si_from_equations.specs.Beside.{netlist_beside, started, unknown, unknown_of}
use Rattle.si_from_equations.specs.Given.{AreGiven}
use Rattle.si_from_equations.specs.Sums.{sum_of}
use Rattle.si_from_equations.proofs.ShapeLemmas.{sums_well_formed}
use Rattle.si_from_equations.proofs.StartLemmas.{both_fit, given_stay}
use Rattle.si_from_equations.proofs.SignalLemmas.{all_distinct, all_few, all_named, all_ordered}

-- ---- the name of a model is a word
shown : (b : ℕ) → is_word_byte b ≡ true → is_between first_visible tilde b ≡ true
shown b is =
    let visible : Bool = is_between first_visible tilde b in
    let no_comment : Bool = visible && not (b == hash) in
    let not_open : Bool = no_comment && not (b == opening_brace) in
    let open_part = (and_parts not_open (not (b == closing_brace)) is).0 in
    let comment_part = (and_parts no_comment (not (b == opening_brace)) open_part).0 in
    (and_parts visible (not (b == hash)) comment_part).0

all_shown : (bs : List ℕ) → list_all is_word_byte bs ≡ true → list_all (is_between first_visible tilde) bs ≡ true
all_shown [] are = refl
all_shown (b ∷ bs) are =
    let parts = and_parts (is_word_byte b) (list_all is_word_byte bs) are in
    rw (shown b parts.0, all_shown bs parts.1) refl

model_is_word : (model : List ℕ) → is_model_name model ≡ true → IsWord model
model_is_word [] is = absurd (false≢true is)
model_is_word (b ∷ bs) is = record { some = omega arith; bytes = all_shown (b ∷ bs) is }

no_brace : (model : List ℕ) (b : ℕ) → is_model_name model ≡ true → is_model_name (b ∷ []) ≡ false → model ≢ b ∷ []
no_brace model b is brace same = let now = rw same at is in false≢true (sym brace ∙ now)

-- ---- insertions that aren't known
pub unknown_names : (xs : List Signal) → map (λ i. i.name) (flat_map unknown_of xs) ≡ names_of Inserted xs
unknown_names [] = refl
unknown_names (x ∷ xs) = by_kind x.kind refl (unknown_names xs)
  where
    by_kind : (kind : SigKind) → x.kind ≡ kind
        → map (λ i. i.name) (flat_map unknown_of xs) ≡ names_of Inserted xs
        → map (λ i. i.name) (flat_map unknown_of (x ∷ xs)) ≡ names_of Inserted (x ∷ xs)
    by_kind Input is rest = rw is rest
    by_kind Output is rest = rw is rest
    by_kind Internal is rest = rw is rest
    by_kind Inserted is rest = rw is (ap (λ (names : List (List ℕ)). x.name ∷ names) rest)

is_mark : IsWord (codes "?") × (codes "?" ≢ codes "down")
is_mark = (record { some = omega arith; bytes = refl }, λ same. cc)

marks : All (λ w. IsWord w × (w ≢ codes "down")) (codes "?" ∷ [])
marks = All-cons (λ (w : List ℕ). IsWord w × (w ≢ codes "down")) (codes "?") [] is_mark
    (All-nil (λ (w : List ℕ). IsWord w × (w ≢ codes "down")))

unknown_is : (name : List ℕ) → IsInsertion (unknown name)
unknown_is name = record {
  some_up = omega arith;
  some_down = omega arith;
  words_up = marks;
  words_down = marks;
}

pub unknown_are : (xs : List Signal) → All IsInsertion (flat_map unknown_of xs)
unknown_are [] = All-nil IsInsertion
unknown_are (x ∷ xs) = by_kind x.kind refl (unknown_are xs)
  where
    by_kind : (kind : SigKind) → x.kind ≡ kind → All IsInsertion (flat_map unknown_of xs)
        → All IsInsertion (flat_map unknown_of (x ∷ xs))
    by_kind Input is rest = rw is rest
    by_kind Output is rest = rw is rest
    by_kind Internal is rest = rw is rest
    by_kind Inserted is rest = rw is
        (All-cons IsInsertion (unknown x.name) (flat_map unknown_of xs) (unknown_is x.name) rest)

-- ---- gates
sum_is : (n : ℕ) (names : List (List ℕ)) (tree : Tree) (found : Option Sum) → sum_of names tree ≡ found
    → length names ≡ n → IsSum n (unwrap_or found [])
sum_is n names tree None is size = All-nil (IsCube n)
sum_is n names tree (Some sum) is size =
    subst (λ (k : ℕ). IsSum k sum) size (sums_well_formed names tree sum is)

gates_are : (signals : List Signal) (e : Equations)
    → All (IsGate (length signals)) (map (gate_for (names_in signals) e) (gated signals))
gates_are signals e = All-map (IsGate (length signals)) (gate_for (names_in signals) e) (gated signals)
    (λ k d within. let tree = expression_of e.equations (get_or (gated signals) k d).name in
    sum_is (length signals) (names_in signals) tree (sum_of (names_in signals) tree) refl
    (length-map signals (λ (x : Signal). x.name)))

-- ---- the netlist
pub fits_more : (start given more : ℕ) → start < 2 ^ given → start < 2 ^ (given + more)
fits_more start given more fits =
    let most : 2 ^ given ≤ 2 ^ (given + more) =
    pow-le-pow_right {n = 2} (omega arith) {i = given} {j = given + more} (omega arith) in
    omega (arith, fits, most)

pub beside_is_netlist : (model : List ℕ) (c : CodedGraph) (e : Equations) → IsCoded c → AreGiven model c.graph.signals
    → AreWhole e → lists_place c.graph.signals e ≡ None → IsNetlist (netlist_beside model c e)
beside_is_netlist model c e coded given whole lists =
    let g = c.graph in
    let all = all_signals g.signals e in
    let behind = signals_of Inserted (hidden_names g.signals e) in
    record {
      model = model_is_word model given.model_name;
      no_brace = (
        no_brace model opening_brace given.model_name refl,
        no_brace model closing_brace given.model_name refl,
      );
      names = all_named g e coded.graph_is whole lists given.names;
      distinct = all_distinct g e coded.graph_is whole lists;
      kinds = all_ordered g e coded.graph_is whole lists;
      few = all_few g e coded.graph_is whole lists;
      start = subst (λ (k : ℕ). code c g.start < 2 ^ k) (sym (length-append g.signals behind))
          (fits_more (code c g.start) (length g.signals) (length behind) (code_fits c g.start coded coded.graph_is.starts));
      insert_names = unknown_names all;
      inserts = unknown_are all;
      gate_count = length-map (gated all) (gate_for (names_in all) e);
      gates = gates_are all e;
    }

-- what is made of its parts
pub made_beside : (model : List ℕ) (c : CodedGraph) (e : Equations) (signals : List Signal) (start : ℕ)
    (inserts : List Insertion) (gates : List Gate) → IsCoded c → AreGiven model c.graph.signals → AreWhole e
    → lists_place c.graph.signals e ≡ None → signals ≡ all_signals c.graph.signals e → start ≡ code c c.graph.start
    → inserts ≡ flat_map unknown_of signals → gates ≡ map (gate_for (names_in signals) e) (gated signals)
    → IsNetlist (record { model = model; signals = signals; start = start; inserts = inserts; gates = gates })
made_beside model c e signals start inserts gates coded given whole lists all starts lines drives =
    rw (drives, lines, starts, all) (beside_is_netlist model c e coded given whole lists)

-- ---- other start values
pub started_is_netlist : (given values : ℕ) (n : Netlist) → IsNetlist n → given ≤ length n.signals → n.start < 2 ^ given
    → values < 2 ^ (length n.signals - given) → IsNetlist (started given values n)
started_is_netlist given values n is within starts fits =
    let size : (length n.signals - given) + given ≡ length n.signals = omega arith in
    record {
      model = is.model;
      no_brace = is.no_brace;
      names = is.names;
      distinct = is.distinct;
      kinds = is.kinds;
      few = is.few;
      start = subst (λ (k : ℕ). values * 2 ^ given + n.start < 2 ^ k) size
          (both_fit n.start given (length n.signals - given) values starts fits);
      insert_names = unknown_names n.signals;
      inserts = unknown_are n.signals;
      gate_count = is.gate_count;
      gates = is.gates;
    }

pub made_started : (given values : ℕ) (n : Netlist) (model : List ℕ) (signals : List Signal) (start : ℕ)
    (inserts : List Insertion) (gates : List Gate) → IsNetlist n → given ≤ length n.signals → n.start < 2 ^ given
    → values < 2 ^ (length n.signals - given) → model ≡ n.model → signals ≡ n.signals
    → start ≡ values * 2 ^ given + n.start → inserts ≡ flat_map unknown_of n.signals → gates ≡ n.gates
    → IsNetlist (record { model = model; signals = signals; start = start; inserts = inserts; gates = gates })
made_started given values n model signals start inserts gates is within starts fits name all at lines drives =
    rw (name, all, at, lines, drives) (started_is_netlist given values n is within starts fits)

-- the given signals keep their values
pub started_is_for : (c : CodedGraph) (n : Netlist) (values : ℕ) → IsFor c n
    → IsFor c (started (length c.graph.signals) values n)
started_is_for c n values is = record {
  signals = is.signals;
  values = λ a within. given_stay n.start (length c.graph.signals) values a within ∙ is.values a within;
}
