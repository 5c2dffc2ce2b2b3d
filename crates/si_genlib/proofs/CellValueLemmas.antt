-- The sum of a kept gate's cell has the gate's value for all values of the pins and the own output.
use Rattle.std.proofs.Common.{◌≡◌, ℕ, ◌+◌, ◌-◌, ◌*◌, ◌<◌, ◌^◌, ◌==◌, ◌&&◌, not, Bool, true, false, if◌then◌else◌, List}
use Rattle.std.proofs.Common.{[], ◌∷◌, ◌++◌, length, bytes_eq, nat_le, nat_lt, All, Result, Ok, Err, refl, sym, ap}
use Rattle.std.proofs.Common.{subst, ◌∙◌, inl, inr, arith}
use Rattle.std.specs.List.{list_all, prefix_len}
use Rattle.std.proofs.lemmas.Bool.{cases_Bool, cases_lt, true≢false, lt-ltb}
use Rattle.std.proofs.lemmas.List.Elements.{All-head, All-tail}
use Rattle.std.proofs.lemmas.Nat.{pow-add}
use Rattle.std.proofs.lemmas.Nat.Bits.{bit_at_cat_low}
use Rattle.si_base.specs.declared.ids.Literal.{Literal}
use Rattle.si_base.specs.Bits.{bit}
use Rattle.si_base.specs.Netlist.{Sum, literal_value, sum_value}
use Rattle.si_base.specs.WellFormed.{IsCube, IsSum}
use Rattle.si_cube.specs.Covers.{IsPrimeCover}
use Rattle.si_words.specs.Names.{stands_in}
use Rattle.si_words.proofs.NameWords.{same_bytes}
use Rattle.si_tokens.specs.declared.fault.Stop.{Stop}
use Rattle.si_genlib.specs.declared.symbol.Symbol.{Symbol}
use Rattle.si_tokens.specs.Unread.{◌>>=◌, Unread, Piece, tokens}
use Rattle.si_genlib.specs.Expression.{Tree, trees, truth, value_of, State, Outcome, Goes, Ends, Stops, start, symbol}
use Rattle.si_genlib.specs.Expression.{is_name, is_constant, step, led, read}
use Rattle.si_genlib.specs.Gate.{Gate, Pins, no_pins, with_pin, with_token, pins_from, ends_expression, pin_count}
use Rattle.si_genlib.specs.Gate.{width, place, gate_value, demand, sum_of, cell_of}
use Rattle.si_genlib.specs.Statements.{name_at, decimal_at, out_at, equals_at, body_at, gate_at}
use Rattle.si_genlib.proofs.ExpressionReads.{stands_push, first_there, name_not_end, goes_not_end}
use Rattle.si_genlib.proofs.ExpressionOverValues.{result_of, value_read}
use Rattle.si_genlib.proofs.DemandLemmas.{prime_cover, sum_well_formed, same_value}
use Rattle.si_genlib.proofs.GateCellLemmas.{Holds}
use Rattle.si_genlib.proofs.GateReadLemmas.{then_holds, anything}

-- ---- a name that stands among the pins stays there
stands_more : (names : List (List ℕ)) (other name : List ℕ) → stands_in names name ≡ true
    → stands_in (names ++ other ∷ []) name ≡ true
stands_more names other name there = rw (stands_push names other name, there) refl

stands_last : (names : List (List ℕ)) (name : List ℕ) → stands_in (names ++ name ∷ []) name ≡ true
stands_last names name = elim (cases_Bool (stands_in names name)) [
  | inl there ↦ rw (stands_push names name name, there) refl
  | inr new ↦ rw (stands_push names name name, new) (same_bytes name)
]

-- what is known of a gate's pins stays known as more tokens are read
record Includes (less more : Pins) : Type 0 where
  names : (name : List ℕ) → stands_in less.names name ≡ true → stands_in more.names name ≡ true
  more_stays : less.more ≡ true → more.more ≡ true
  own_stays : less.own ≡ true → more.own ≡ true

includes_itself : (pins : Pins) → Includes pins pins
includes_itself pins = record { names = λ name there. there; more_stays = λ so. so; own_stays = λ so. so }

includes_then : (one two three : Pins) → Includes one two → Includes two three → Includes one three
includes_then one two three first next = record {
  names = λ name there. next.names name (first.names name there);
  more_stays = λ so. next.more_stays (first.more_stays so);
  own_stays = λ so. next.own_stays (first.own_stays so);
}

pin_includes : (out : List ℕ) (pins : Pins) (name : List ℕ) → Includes pins (with_pin out pins name)
pin_includes out pins name = elim (cases_Bool (bytes_eq name out)) [
  | inl own ↦ rw own (record { names = λ n there. there; more_stays = λ so. so; own_stays = λ so. refl })
  | inr apart ↦ elim (cases_Bool (stands_in pins.names name)) [
    | inl there ↦ rw (apart, there) (includes_itself pins)
    | inr new ↦ elim (cases_Bool (nat_le 4 (length pins.names))) [
      | inl full ↦ rw (apart, new, full)
          (record { names = λ n there. there; more_stays = λ so. refl; own_stays = λ so. so })
      | inr room ↦ rw (apart, new, room) (record {
        names = λ n there. stands_more pins.names name n there;
        more_stays = λ so. so;
        own_stays = λ so. so;
      })
    ]
  ]
]

token_includes : (out : List ℕ) (pins : Pins) (bytes : List ℕ) → Includes pins (with_token out pins bytes)
token_includes out pins bytes = elim (cases_Bool (is_name bytes && not (is_constant bytes))) [
  | inl pin ↦ rw pin (pin_includes out pins bytes)
  | inr none ↦ rw none (includes_itself pins)
]

end_includes : (out : List ℕ) (pins : Pins) (ps : List Piece) → Includes pins (pins_from out pins ps)
end_includes out pins [] = includes_itself pins
end_includes out pins (p ∷ ps) = elim (cases_Bool (ends_expression p.bytes)) [
  | inl ends ↦ rw ends (includes_itself pins)
  | inr on ↦ rw on (includes_then pins (with_token out pins p.bytes) (pins_from out (with_token out pins p.bytes) ps)
      (token_includes out pins p.bytes) (end_includes out (with_token out pins p.bytes) ps))
]

-- the gate is kept, and its own output doesn't occur
pub record IsPlain (pins : Pins) : Type 0 where
  pub kept : pins.more ≡ false
  pub no_own : pins.own ≡ false

-- then each name in the expression is that of a pin
pin_stands : (out : List ℕ) (pins end : Pins) (name : List ℕ) → Includes (with_pin out pins name) end → IsPlain end
    → stands_in end.names name ≡ true
pin_stands out pins end name within plain = elim (cases_Bool (bytes_eq name out)) [
  | inl own ↦ (let is : (with_pin out pins name).own ≡ true = rw own refl in
      absurd (true≢false (sym (within.own_stays is) ∙ plain.no_own)))
  | inr apart ↦ elim (cases_Bool (stands_in pins.names name)) [
    | inl there ↦ within.names name (rw (apart, there) there)
    | inr new ↦ elim (cases_Bool (nat_le 4 (length pins.names))) [
      | inl full ↦ (let is : (with_pin out pins name).more ≡ true = rw (apart, new, full) refl in
          absurd (true≢false (sym (within.more_stays is) ∙ plain.kept)))
      | inr room ↦ within.names name (rw (apart, new, room) (stands_last pins.names name))
    ]
  ]
]

-- ---- expressions read with two valuations that agree at the pins
first_same : (v w : Bool) (rest : Unread) (r : Result (Bool × Unread) Stop) → r ≡ Ok (v, rest) → r ≡ Ok (w, rest) → v
    ≡ w
first_same v w rest r one other =
    let both : (v, rest) ≡ (w, rest) = cc in
    ap (λ (x : Bool × Unread). x.0) both

module _ (f h : List ℕ → Bool) (out : List ℕ) (end : Pins) (plain : IsPlain end)
    (agree : (name : List ℕ) → stands_in end.names name ≡ true → f name ≡ h name) where
  same_symbol : (pins : Pins) (p : Piece) (ps : List Piece) → pins_from out pins (p ∷ ps) ≡ end
      → symbol (truth f) p.bytes ≡ symbol (truth h) p.bytes
  same_symbol pins p ps is = elim (cases_Bool (is_name p.bytes)) [
    | inr mark ↦ rw mark refl
    | inl name ↦ elim (cases_Bool (is_constant p.bytes)) [
      | inl constant ↦ rw (name, constant) refl
      | inr pin ↦ (
          let on : ends_expression p.bytes ≡ false = name_not_end p.bytes name in
          let behind : pins_from out (with_pin out pins p.bytes) ps ≡ end = rw (on, name, pin) at is in
          let within : Includes (with_pin out pins p.bytes) end =
          subst (Includes (with_pin out pins p.bytes)) behind (end_includes out (with_pin out pins p.bytes) ps) in
          rw (name, pin, agree p.bytes (pin_stands out pins end p.bytes within plain)) refl)
    ]
  ]

  same_step : (s : State Bool) (x : Symbol Bool) → step (truth f) s x ≡ step (truth h) s x
  unfolding step
  same_step s x = refl

  by_outcome : (p : Piece) (ps : List Piece) (c d : Outcome Bool)
      → ((t : State Bool) → c ≡ Goes t → read (truth f) t ps ≡ read (truth h) t ps) → c ≡ d
      → led (λ t. read (truth f) t ps) p d ≡ led (λ t. read (truth h) t ps) p d
  by_outcome p ps c (Goes t) next is = next t is
  by_outcome p ps c (Ends x) next is = refl
  by_outcome p ps c (Stops kind) next is = refl

  same_read : (pins : Pins) (s : State Bool) (ps : List Piece) → pins_from out pins ps ≡ end
      → read (truth f) s ps ≡ read (truth h) s ps
  same_read pins s [] is = refl
  same_read pins s (p ∷ ps) is =
      by_outcome p ps (step (truth f) s (symbol (truth f) p.bytes)) (step (truth f) s (symbol (truth f) p.bytes))
      (λ t on. (let goes : ends_expression p.bytes ≡ false = goes_not_end (truth f) s t p.bytes on in
      same_read (with_token out pins p.bytes) t ps (rw goes at is))) refl
      ∙ ap (λ (c : Outcome Bool). led (λ t. read (truth h) t ps) p c)
      (same_step s (symbol (truth f) p.bytes) ∙ ap (step (truth h) s) (same_symbol pins p ps is))

  pub same_tree_value : (ps : List Piece) (tree : Tree) (rest : Unread) → pins_from out no_pins ps ≡ end
      → read trees start ps ≡ Ok (tree, rest) → value_of (truth f) tree ≡ value_of (truth h) tree
  same_tree_value ps tree rest pins_are is =
      let one : read (truth f) start ps ≡ Ok (value_of (truth f) tree, rest) =
      value_read (truth f) ps ∙ ap (result_of (value_of (truth f))) is in
      let other : read (truth h) start ps ≡ Ok (value_of (truth h) tree, rest) =
      value_read (truth h) ps ∙ ap (result_of (value_of (truth h))) is in
      first_same (value_of (truth f) tree) (value_of (truth h) tree) rest (read (truth f) start ps) one
      (same_read no_pins start ps pins_are ∙ other)

-- ---- the value of a gate without own output
place_small : (names : List (List ℕ)) (name : List ℕ) → stands_in names name ≡ true → place names name < length names
place_small names name there =
    let first = first_there (λ n. bytes_eq name n) names [] there in
    let less : nat_lt (prefix_len (λ n. not (bytes_eq name n)) names) (length names) ≡ true = lt-ltb _ _ first.1 in
    rw less first.1

-- codes with the same values of the pins give the same value
abbrev DependsOnPins : Gate → Type 0
DependsOnPins g = IsPlain g.pins → (one other : ℕ) → ((k : ℕ) → k < pin_count g → bit one k ≡ bit other k)
    → gate_value g one ≡ gate_value g other

body_depends : (line : ℕ) (name out : List ℕ) (u : Unread)
    → Holds {A = Gate × Unread} (λ x. DependsOnPins x.0) (body_at line name out u)
unfolding body_at gate_value
body_depends line name out u = by_result (read trees start (tokens u)) refl
  where
    by_result : (r : Result (Tree × Unread) Stop) → read trees start (tokens u) ≡ r
        → Holds {A = Gate × Unread} (λ x. DependsOnPins x.0) (r >>= λ x. Ok (
          record {
            line = line;
            name = name;
            out = out;
            pins = pins_from out no_pins (tokens u);
            tree = x.0;
          },
          x.1,
        ))
    by_result (Err stop) is = tt
    by_result (Ok x) is = λ plain one other same.
        same_tree_value (λ n. bit one (place (pins_from out no_pins (tokens u)).names n))
        (λ n. bit other (place (pins_from out no_pins (tokens u)).names n)) out (pins_from out no_pins (tokens u)) plain
        (λ n there. same (place (pins_from out no_pins (tokens u)).names n)
        (place_small (pins_from out no_pins (tokens u)).names n there)) (tokens u) x.0 x.1 refl is

gate_depends : (line : ℕ) (u : Unread) → Holds {A = Gate × Unread} (λ x. DependsOnPins x.0) (gate_at line u)
unfolding gate_at
gate_depends line u = then_holds {A = List ℕ × Unread} (λ x. Unit {0}) (λ x. DependsOnPins x.0) (name_at u) _
    (anything (name_at u))
    (λ name any. then_holds {A = Unread} (λ x. Unit {0}) (λ x. DependsOnPins x.0) (decimal_at name.1) _
    (anything (decimal_at name.1))
    (λ area any. then_holds {A = List ℕ × Unread} (λ x. Unit {0}) (λ x. DependsOnPins x.0) (out_at area) _
    (anything (out_at area))
    (λ out any. then_holds {A = Unread} (λ x. Unit {0}) (λ x. DependsOnPins x.0) (equals_at out.1) _
    (anything (equals_at out.1))
    (λ body any. body_depends line name.0 out.0 body))))

-- ---- the value of a sum of the pins alone
low_cube : (n j : ℕ) (cube : List Literal) → All (λ l. l.sig < n) cube
    → list_all (literal_value (1 * 2 ^ n + j)) cube ≡ list_all (literal_value j) cube
low_cube n j [] there = refl
low_cube n j (l ∷ cube) there =
    let same : bit (1 * 2 ^ n + j) l.sig ≡ bit j l.sig = ap (λ (b : ℕ). b == 1)
    (bit_at_cat_low 1 n j l.sig (All-head (λ (m : Literal). m.sig < n) l cube there)) in
    let rest = low_cube n j cube (All-tail (λ (m : Literal). m.sig < n) l cube there) in
    rw (same, rest) refl

low_sum : (n j : ℕ) (sum : Sum) → IsSum n sum → sum_value (1 * 2 ^ n + j) sum ≡ sum_value j sum
low_sum n j [] is = refl
low_sum n j (cube ∷ sum) is =
    let same = low_cube n j cube (All-head (IsCube n) cube sum is).there in
    let rest = low_sum n j sum (All-tail (IsCube n) cube sum is) in
    rw (same, rest) refl

-- ---- the cell
value_at : (g : Gate) (own : Bool) → g.pins.own ≡ own → g.pins.more ≡ false → DependsOnPins g → (code : ℕ)
    → code < 2 ^ (pin_count g + 1)
    → sum_value code (sum_of (pin_count g + (if own then 1 else 0)) (gate_value g)) ≡ gate_value g code
value_at g true has kept depends code fits = same_value (pin_count g + 1) (gate_value g) code fits
value_at g false none kept depends code fits = elim (cases_lt code (2 ^ pin_count g)) [
  | inl below ↦ low code below
  | inr above ↦ (
      let j : ℕ = code - 2 ^ pin_count g in
      let twice = pow-add 2 (pin_count g) 1 in
      let whole : code ≡ 1 * 2 ^ pin_count g + j = omega (arith, above) in
      let small : j < 2 ^ pin_count g = omega (arith, fits, twice) in
      let same : (k : ℕ) → k < pin_count g → bit (1 * 2 ^ pin_count g + j) k ≡ bit j k =
      λ k less. ap (λ (b : ℕ). b == 1) (bit_at_cat_low 1 (pin_count g) j k less) in
      subst (λ (k : ℕ). sum_value k (sum_of (pin_count g + 0) (gate_value g)) ≡ gate_value g k) (sym whole)
      (low_sum (pin_count g) j (sum_of (pin_count g + 0) (gate_value g)) is ∙ low j small
      ∙ sym (depends (record { kept = kept; no_own = none }) (1 * 2 ^ pin_count g + j) j same)))
]
  where
    width_is : pin_count g + 0 ≡ pin_count g
    width_is = omega arith

    is : IsSum (pin_count g) (sum_of (pin_count g + 0) (gate_value g))
    is = subst (λ (m : ℕ). IsSum m (sum_of (pin_count g + 0) (gate_value g))) width_is
        (sum_well_formed (pin_count g + 0) (gate_value g))

    low : (k : ℕ) → k < 2 ^ pin_count g → sum_value k (sum_of (pin_count g + 0) (gate_value g)) ≡ gate_value g k
    low k less = same_value (pin_count g + 0) (gate_value g) k (subst (λ (m : ℕ). k < 2 ^ m) (sym width_is) less)

pub cell_value : (line : ℕ) (u : Unread) (g : Gate) (rest : Unread) (names : List (List ℕ)) (code : ℕ)
    → gate_at line u ≡ Ok (g, rest) → g.pins.more ≡ false → code < 2 ^ (pin_count g + 1)
    → sum_value code (cell_of names g).sum ≡ gate_value g code
unfolding cell_of
cell_value line u g rest names code is kept fits = value_at g g.pins.own refl kept
    (rw is at (gate_depends line u)) code fits

pub cell_cover : (g : Gate) (names : List (List ℕ)) → IsPrimeCover (demand (width g) (gate_value g))
    (cell_of names g).sum
unfolding cell_of
cell_cover g names = prime_cover (width g) (gate_value g)
