-- Ports whose names have no fault, and one more.
use Rattle.std.proofs.Common.{◌≡◌, ℕ, ◌+◌, ◌<◌, ◌||◌, not, Bool, true, false, List, [], ◌∷◌, ◌++◌, length, bytes_eq}
use Rattle.std.proofs.Common.{nat_le, Option, Some, None, Ok, suc, refl, sym, ap, subst, ◌∙◌, append_assoc, arith}
use Rattle.std.proofs.lemmas.Bool.{or_parts, leb-false, lt-leb}
use Rattle.std.proofs.lemmas.List.{append-nil, length-append}
use Rattle.si_base.specs.Faults.{when, ◌otherwise◌, first_after}
use Rattle.si_base.specs.Limits.{max_signals}
use Rattle.si_base.specs.Words.{is_signal_name}
use Rattle.si_base.specs.declared.fault.TextKind.{TextKind}
use Rattle.si_base.specs.declared.fault.TextKind.TheVariants.{BadName, Repeated, TooManySignals}
use Rattle.si_words.specs.Names.{stands_in, name_fault}
use Rattle.si_words.proofs.FaultLemmas.{both, not_when}
use Rattle.si_equations.proofs.ListLemmas.{good_push, AreGoodNames}
use Rattle.si_equations.proofs.NewLemmas.{stands_append, bytes_turned}
use Rattle.si_verilog_reader.specs.Parts.{if_good}
use Rattle.si_verilog_reader.specs.Modules.{Ports, no_ports, all_ports, with_port}
use Rattle.si_verilog_reader.specs.Loops.Names.{AreGood, fault_by}
use Rattle.si_verilog_reader.specs.declared.heads.Rule.{Rule}
use Rattle.si_verilog_reader.specs.declared.heads.Rule.TheVariants as rules

-- what is read without fault
pub good_none : {A : Type 0} (line : ℕ) (fault : Option TextKind) (x y : A) → if_good line fault x ≡ Ok y
    → fault ≡ None
good_none line None x y is = refl
good_none line (Some kind) x y is = absurd cc

-- ---- a name without fault

-- what holds of it, behind others
pub record IsNew (names : List (List ℕ)) (x : List ℕ) : Type 0 where
  pub named : when (not (is_signal_name x)) BadName ≡ None
  pub new : stands_in names x ≡ false
  pub room : length names < max_signals

pub is_new : (names : List (List ℕ)) (x : List ℕ) → name_fault max_signals names x ≡ None → IsNew names x
is_new names x none =
    let full = when (nat_le max_signals (length names)) TooManySignals in
    let one = both (when (not (is_signal_name x)) BadName) (when (stands_in names x) Repeated otherwise full) none in
    let two = both (when (stands_in names x) Repeated) full one.1 in
    record {
      named = one.0;
      new = not_when (stands_in names x) Repeated two.0;
      room = leb-false max_signals (length names) (not_when (nat_le max_signals (length names)) TooManySignals two.1);
    }

good_new : (names : List (List ℕ)) (x : List ℕ) → IsNew names x → name_fault max_signals names x ≡ None
good_new names x is =
    let named = is.named in
    let new = is.new in
    let room : nat_le max_signals (length names) ≡ false = lt-leb max_signals (length names) is.room in
    λ i. named i otherwise when (new i) Repeated otherwise when (room i) TooManySignals

-- ---- names behind which one more stands

-- these are those, and one more
record HasOneMore (names more : List (List ℕ)) (x : List ℕ) : Type 0 where
  stands : (y : List ℕ) → stands_in more y ≡ (stands_in names y || bytes_eq y x)
  count : length more ≡ suc (length names)

joined : (a b c : Bool) → ((a || b) || c) ≡ ((a || c) || b)
joined true b c = refl
joined false true true = refl
joined false true false = refl
joined false false true = refl
joined false false false = refl

stands_behind : (names : List (List ℕ)) (x y : List ℕ)
    → stands_in (names ++ x ∷ []) y ≡ (stands_in names y || bytes_eq y x)
stands_behind names x y = stands_append names (x ∷ []) y ∙ by_here (stands_in names y) (bytes_eq y x)
  where
    by_here : (a b : Bool) → (a || (b || false)) ≡ (a || b)
    by_here true b = refl
    by_here false true = refl
    by_here false false = refl

first_more : (names : List (List ℕ)) (x : List ℕ) → HasOneMore names (names ++ x ∷ []) x
first_more names x = record {
  stands = stands_behind names x;
  count = omega (arith, length-append names (x ∷ []));
}

still_more : (names more : List (List ℕ)) (x y : List ℕ) → HasOneMore names more x
    → HasOneMore (names ++ y ∷ []) (more ++ y ∷ []) x
still_more names more x y has = record {
  stands = λ z. stands_behind more y z ∙ ap (λ (c : Bool). c || bytes_eq z y) (has.stands z)
      ∙ joined (stands_in names z) (bytes_eq z x) (bytes_eq z y)
      ∙ ap (λ (c : Bool). c || bytes_eq z x) (sym (stands_behind names y z));
  count = omega (arith, has.count, length-append names (y ∷ []), length-append more (y ∷ []));
}

-- names that have no fault behind others have none where one more stands there, which is none of
-- them, and for which there is room behind all
good_behind_more : (names more xs : List (List ℕ)) (x : List ℕ) → HasOneMore names more x
    → stands_in xs x ≡ false → length names + length xs < max_signals
    → first_after (name_fault max_signals) names xs ≡ None → first_after (name_fault max_signals) more xs ≡ None
good_behind_more names more [] x has apart room good = refl
good_behind_more names more (y ∷ ys) x has apart room good =
    let parts = both (name_fault max_signals names y) (first_after (name_fault max_signals) (names ++ y ∷ []) ys) good in
    let here = is_new names y parts.0 in
    let others = or_parts (bytes_eq x y) (stands_in ys x) apart in
    let none = good_new more y (record {
      named = here.named;
      new = has.stands y ∙ ap (λ (c : Bool). c || bytes_eq y x) here.new ∙ bytes_turned x y false others.0;
      room = omega (arith, has.count, room);
    }) in
    rw none (good_behind_more (names ++ y ∷ []) (more ++ y ∷ []) ys x (still_more names more x y has) others.1
    (omega (arith, room, length-append names (y ∷ []))) parts.1)

-- ---- one more port

-- the first of them have no fault
good_first : (names xs ys : List (List ℕ)) → first_after (name_fault max_signals) names (xs ++ ys) ≡ None
    → (first_after (name_fault max_signals) names xs ≡ None)
    × (first_after (name_fault max_signals) (names ++ xs) ys ≡ None)
good_first names [] ys good = (refl, rw append-nil good)
good_first names (x ∷ xs) ys good =
    let parts = both (name_fault max_signals names x) (first_after (name_fault max_signals) (names ++ x ∷ []) (xs ++ ys))
    good in
    let later = good_first (names ++ x ∷ []) xs ys parts.1 in
    (rw parts.0 later.0, rw append_assoc at later.1)

good_joined : (names xs ys : List (List ℕ)) → first_after (name_fault max_signals) names xs ≡ None
    → first_after (name_fault max_signals) (names ++ xs) ys ≡ None
    → first_after (name_fault max_signals) names (xs ++ ys) ≡ None
good_joined names [] ys one two = rw append-nil at two
good_joined names (x ∷ xs) ys one two =
    let parts = both (name_fault max_signals names x) (first_after (name_fault max_signals) (names ++ x ∷ []) xs) one in
    rw parts.0 (good_joined (names ++ x ∷ []) xs ys parts.1 (rw append_assoc two))

in_the_middle : (xs ys : List (List ℕ)) (name : List ℕ) → AreGoodNames (xs ++ ys)
    → name_fault max_signals (xs ++ ys) name ≡ None → AreGoodNames ((xs ++ name ∷ []) ++ ys)
in_the_middle xs ys name good none =
    let parts = good_first [] xs ys good in
    let is = is_new (xs ++ ys) name none in
    let apart = or_parts (stands_in xs name) (stands_in ys name) (sym (stands_append xs ys name) ∙ is.new) in
    let here = good_new xs name (record {
      named = is.named;
      new = apart.0;
      room = omega (arith, is.room, length-append xs ys);
    }) in
    good_joined [] (xs ++ name ∷ []) ys (good_push (name_fault max_signals) [] xs name parts.0 here)
    (good_behind_more xs (xs ++ name ∷ []) ys name (first_more xs name) apart.1
    (omega (arith, is.room, length-append xs ys)) parts.1)

at_the_end : (xs ys : List (List ℕ)) (name : List ℕ) → AreGoodNames (xs ++ ys)
    → name_fault max_signals (xs ++ ys) name ≡ None → AreGoodNames (xs ++ (ys ++ name ∷ []))
at_the_end xs ys name good none = subst AreGoodNames (append_assoc xs ys (name ∷ []))
    (good_push (name_fault max_signals) [] (xs ++ ys) name good none)

pub good_with_port : (is_input : Bool) (name : List ℕ) (ports : Ports) → AreGoodNames (all_ports ports)
    → name_fault max_signals (all_ports ports) name ≡ None → AreGoodNames (all_ports (with_port is_input name ports))
good_with_port true name ports = in_the_middle ports.inputs ports.outputs name
good_with_port false name ports = at_the_end ports.inputs ports.outputs name

-- ---- ports by their names

abbrev pub with_names : List (List ℕ) → List (List ℕ) → Ports
with_names inputs outputs = record { inputs = inputs; outputs = outputs }

pub no_names : (inputs outputs : List (List ℕ)) → inputs ≡ [] → outputs ≡ [] → with_names inputs outputs ≡ no_ports
no_names inputs outputs one other = λ i. with_names (one i) (other i)

-- ---- by the rule of a module

pub none_good : (rule : Rule) → AreGood rule no_ports
none_good rules.OfCircuit = refl
none_good rules.OfCell = tt

-- a port without fault finds room
pub new_by : (rule : Rule) (names : List (List ℕ)) (x : List ℕ) → fault_by rule names x ≡ None
    → (stands_in names x ≡ false) × (length names < max_signals)
new_by rules.OfCircuit names x none = (let is = is_new names x none in (is.new, is.room))
new_by rules.OfCell names x none =
    let full = nat_le max_signals (length names) in
    let parts = both (when (stands_in names x) Repeated) (when full TooManySignals) none in (
      not_when (stands_in names x) Repeated parts.0,
      leb-false max_signals (length names) (not_when full TooManySignals parts.1),
    )

pub good_by : (rule : Rule) (is_input : Bool) (name : List ℕ) (ports : Ports) → AreGood rule ports
    → fault_by rule (all_ports ports) name ≡ None → AreGood rule (with_port is_input name ports)
good_by rules.OfCircuit is_input name ports good none = good_with_port is_input name ports good none
good_by rules.OfCell is_input name ports good none = tt
