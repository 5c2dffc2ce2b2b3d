-- One token of an expression: its pins, and where it leads.
use Rattle.std.proofs.Common.{◌≡◌, ◌⊎◌, ℕ, ◌+◌, ◌<◌, ◌≤◌, ◌==◌, ◌&&◌, ◌||◌, not, Bool, true, false, if◌then◌else◌, List}
use Rattle.std.proofs.Common.{[], ◌∷◌, ◌++◌, length, nat_le, nat_lt, bytes_eq, Option, Some, None, Result, Ok, Err}
use Rattle.std.proofs.Common.{refl, sym, ap, subst, ◌∙◌, arith, inl, inr}
use Rattle.std.specs.List.{prefix_len, list_any}
use Rattle.std.proofs.lemmas.Bool.{cases_Bool, true≢false, eqb-true, leb-true, leb-false, lt-ltb, le-ltb}
use Rattle.std.proofs.lemmas.List.{length_push, length-append}
use Rattle.std.proofs.lemmas.Slice.Eq.{bytes_eq-Decides}
use Rattle.si_base.specs.Words.{is_name_byte}
use Rattle.si_words.specs.Names.{stands_in}
use Rattle.si_cell.specs.Limits.{max_pins}
use Rattle.si_base.specs.declared.fault.TextKind.{TextKind}
use Rattle.si_words.proofs.NameWords.{same_bytes, bytes_swap}
use Rattle.si_tokens.specs.declared.fault.Stop.{Stop}
use Rattle.si_tokens.specs.declared.fault.Stop.TheVariants.{Fault}
use Rattle.si_genlib.specs.declared.symbol.Symbol.{Symbol}
use Rattle.si_genlib.specs.declared.symbol.Symbol.TheVariants.{Leaf, Complement, Prime, Times, Plus, Open, Close, End}
use Rattle.si_genlib.specs.declared.symbol.Symbol.TheVariants.{Other}
use Rattle.si_genlib.specs.declared.symbol.Operator.{Operator}
use Rattle.si_genlib.specs.declared.symbol.Operator.TheVariants as operators
use Rattle.si_tokens.specs.Unread.{Unread, Piece}
use Rattle.si_genlib.specs.Expression.{Operations, State, Outcome, Goes, Ends, Stops, is_name, is_constant, mark}
use Rattle.si_genlib.specs.Expression.{symbol, opened, due, closed, ended, still, all_terms, next_factor, step_at, step}
use Rattle.si_genlib.specs.Expression.{led, read}
use Rattle.si_genlib.specs.Gate.{no_pins, Pins, with_pin, with_token, ends_expression, pins_from}
use Rattle.si_genlib.specs.Loops.Tables.{tables, slot, variable}

-- ---- names among pins
pub stands_push : (names : List (List ℕ)) (n m : List ℕ) → stands_in (names ++ n ∷ []) m
    ≡ (stands_in names m || bytes_eq m n)
stands_push [] n m = elim (cases_Bool (bytes_eq m n)) [ inl h ↦ rw h refl | inr h ↦ rw h refl ]
stands_push (x ∷ names) n m =
    elim (cases_Bool (bytes_eq m x)) [ inl h ↦ rw h refl | inr h ↦ rw h (stands_push names n m) ]

pub first_there : (p : List ℕ → Bool) (xs ys : List (List ℕ)) → list_any p xs ≡ true
    → (prefix_len (λ x. not (p x)) (xs ++ ys) ≡ prefix_len (λ x. not (p x)) xs)
    × (prefix_len (λ x. not (p x)) xs < length xs)
first_there p [] ys there = absurd (true≢false (sym there))
first_there p (x ∷ xs) ys there = elim (cases_Bool (p x)) [
  | inl here ↦ rw here (refl, omega arith)
  | inr other ↦
      let rest = first_there p xs ys (rw other at there) in
      rw other (ap (λ (n : ℕ). 1 + n) rest.0, omega (arith, rest.1))
]

first_none : (p : List ℕ → Bool) (xs : List (List ℕ)) → list_any p xs ≡ false
    → prefix_len (λ x. not (p x)) xs ≡ length xs
first_none p [] none = refl
first_none p (x ∷ xs) none = elim (cases_Bool (p x)) [
  | inl here ↦ absurd (true≢false (rw here at none))
  | inr other ↦
      let rest = first_none p xs (rw other at none) in
      rw other (omega (arith, rest))
]

slot_there : (names more : List (List ℕ)) (name : List ℕ) → stands_in names name ≡ true
    → slot (names ++ more) name ≡ slot names name
slot_there names more name there =
    let first = first_there (λ n. bytes_eq name n) names more there in
    let len : length names ≤ length (names ++ more) = omega (arith, length-append names more) in
    let one : nat_lt (prefix_len (λ n. not (bytes_eq name n)) names) (length (names ++ more)) ≡ true =
    lt-ltb _ _ (omega (arith, first.1, len)) in
    let other : nat_lt (prefix_len (λ n. not (bytes_eq name n)) names) (length names) ≡ true = lt-ltb _ _ first.1 in
    rw (first.0, one, other) refl

slot_none : (names : List (List ℕ)) (name : List ℕ) → stands_in names name ≡ false → slot names name ≡ 4
slot_none names name none =
    let past : nat_lt (length names) (length names) ≡ false = le-ltb _ _ (omega arith) in
    rw (first_none (λ n. bytes_eq name n) names none, past) refl

-- few, and not the own output
pub record IsLawful (out : List ℕ) (pins : Pins) : Type 0 where
  pub few : length pins.names ≤ max_pins
  pub other : stands_in pins.names out ≡ false

-- what more pins don't change: the place of this name
abbrev pub IsPlaced : List ℕ → Pins → List ℕ → Type 0
IsPlaced out pins name = (stands_in pins.names name ≡ true) ⊎ ((name ≡ out) ⊎ (max_pins ≤ length pins.names))

added : (out : List ℕ) (pins : Pins) (name : List ℕ) → IsLawful out pins
    → IsLawful out (with_pin out pins name) × IsPlaced out (with_pin out pins name) name
added out pins name ok = elim (cases_Bool (bytes_eq name out)) [
  | inl same ↦ rw same
      (record { few = ok.few; other = ok.other }, inr (inl ((bytes_eq-Decides name out).0 same)))
  | inr apart ↦ elim (cases_Bool (stands_in pins.names name)) [
    | inl there ↦ rw (apart, there) (ok, inl there)
    | inr new ↦ elim (cases_Bool (nat_le max_pins (length pins.names))) [
      | inl full ↦ rw (apart, new, full)
          (record { few = ok.few; other = ok.other }, inr (inr (leb-true _ _ full)))
      | inr room ↦
          let space = leb-false _ _ room in
          rw (apart, new, room) (
            record {
              few = omega (arith, space, length_push pins.names name);
              other = rw (stands_push pins.names name out, ok.other) (bytes_swap name out apart);
            },
            inl (rw (stands_push pins.names name name, new) (same_bytes name)),
          )
    ]
  ]
]

kept : (out : List ℕ) (pins : Pins) (other name : List ℕ) → IsLawful out pins → IsPlaced out pins name
    → (slot (with_pin out pins other).names name ≡ slot pins.names name) × IsPlaced out (with_pin out pins other) name
kept out pins other name ok placed = elim (cases_Bool (bytes_eq other out)) [
  | inl same ↦ rw same (refl, placed)
  | inr apart ↦ elim (cases_Bool (stands_in pins.names other)) [
    | inl there ↦ rw (apart, there) (refl, placed)
    | inr new ↦ elim (cases_Bool (nat_le max_pins (length pins.names))) [
      | inl full ↦ rw (apart, new, full) (refl, placed)
      | inr room ↦ rw (apart, new, room) (by_place placed apart (leb-false _ _ room))
    ]
  ]
]
  where
    by_place : IsPlaced out pins name → bytes_eq other out ≡ false → length pins.names < max_pins
        → (slot (pins.names ++ other ∷ []) name ≡ slot pins.names name)
        × ((stands_in (pins.names ++ other ∷ []) name ≡ true) ⊎
        ((name ≡ out) ⊎ (max_pins ≤ length (pins.names ++ other ∷ []))))
    by_place (inl there) apart room = (
      slot_there pins.names (other ∷ []) name there,
      inl (rw (stands_push pins.names other name, there) refl),
    )
    by_place (inr (inl is)) apart room =
        let before : stands_in pins.names name ≡ false = rw is ok.other in
        let behind : stands_in (pins.names ++ other ∷ []) name ≡ false =
        rw (stands_push pins.names other name, before, is) (bytes_swap other out apart) in
        (slot_none (pins.names ++ other ∷ []) name behind ∙ sym (slot_none pins.names name before), inr (inl is))
    by_place (inr (inr full)) apart room = absurd (omega (arith, full, room))

stable : (out : List ℕ) (pins : Pins) (name : List ℕ) (more : List Piece) → IsLawful out pins → IsPlaced out pins name
    → slot (pins_from out pins more).names name ≡ slot pins.names name
stable out pins name [] ok placed = refl
stable out pins name (t ∷ more) ok placed = elim (cases_Bool (ends_expression t.bytes)) [
  | inl ends ↦ rw ends refl
  | inr goes ↦ elim (cases_Bool (is_name t.bytes && not (is_constant t.bytes))) [
    | inl pin ↦
        let one = kept out pins t.bytes name ok placed in
        rw (goes, pin) (stable out (with_pin out pins t.bytes) name more (added out pins t.bytes ok).0 one.1 ∙ one.0)
    | inr none ↦ rw (goes, none) (stable out pins name more ok placed)
  ]
]

-- ---- what a token is doesn't change with more pins
symbol_stays : (out : List ℕ) (pins : Pins) (bytes : List ℕ) (more : List Piece) → IsLawful out pins
    → symbol (tables (pins_from out (with_token out pins bytes) more).names) bytes
    ≡ symbol (tables (with_token out pins bytes).names) bytes
symbol_stays out pins bytes more ok = elim (cases_Bool (is_name bytes)) [
  | inr mark ↦ rw mark refl
  | inl name ↦ elim (cases_Bool (is_constant bytes)) [
    | inl constant ↦ rw (name, constant) refl
    | inr pin ↦
        let new = added out pins bytes ok in
        rw (name, pin) (ap (λ (k : ℕ). Leaf (variable k)) (stable out (with_pin out pins bytes) bytes more new.0 new.1))
  ]
]

token_lawful : (out : List ℕ) (pins : Pins) (bytes : List ℕ) → IsLawful out pins
    → IsLawful out (with_token out pins bytes)
token_lawful out pins bytes ok = elim (cases_Bool (is_name bytes && not (is_constant bytes))) [
  | inl pin ↦ rw pin (added out pins bytes ok).0
  | inr none ↦ rw none ok
]

-- ---- only `;` ends an expression
abbrev is_end : {X : Type 0} → Symbol X → Bool
is_end End = true
is_end _ = false

end_of : (X : Type 0) (c1 c2 c3 c4 c5 c6 c7 : Bool) → (c7 ≡ true → c1 ≡ false) → (c7 ≡ true → c2 ≡ false)
    → (c7 ≡ true → c3 ≡ false)
    → (c7 ≡ true → c4 ≡ false) → (c7 ≡ true → c5 ≡ false) → (c7 ≡ true → c6 ≡ false)
    → is_end {X = X} (if c1 then Complement else if c2 then Prime else if c3 then Times
    else if c4 then Plus else if c5 then Open else if c6 then Close else if c7 then End else Other) ≡ c7
end_of X true c2 c3 c4 c5 c6 true a b c d e f = absurd (true≢false (a refl))
end_of X true c2 c3 c4 c5 c6 false a b c d e f = refl
end_of X false true c3 c4 c5 c6 true a b c d e f = absurd (true≢false (b refl))
end_of X false true c3 c4 c5 c6 false a b c d e f = refl
end_of X false false true c4 c5 c6 true a b c d e f = absurd (true≢false (c refl))
end_of X false false true c4 c5 c6 false a b c d e f = refl
end_of X false false false true c5 c6 true a b c d e f = absurd (true≢false (d refl))
end_of X false false false true c5 c6 false a b c d e f = refl
end_of X false false false false true c6 true a b c d e f = absurd (true≢false (e refl))
end_of X false false false false true c6 false a b c d e f = refl
end_of X false false false false false true true a b c d e f = absurd (true≢false (f refl))
end_of X false false false false false true false a b c d e f = refl
end_of X false false false false false false true a b c d e f = refl
end_of X false false false false false false false a b c d e f = refl

mark_end : (X : Type 0) (bytes : List ℕ) → is_end {X = X} (mark bytes) ≡ ends_expression bytes
mark_end X [] = refl
mark_end X (b ∷ c ∷ bs) = refl
mark_end X (b ∷ []) =
    end_of X (b == 33) (b == 39) (b == 42) (b == 43) (b == 40) (b == 41) (b == 59)
    (λ e. ap (λ (n : ℕ). n == 33) (eqb-true b 59 e)) (λ e. ap (λ (n : ℕ). n == 39) (eqb-true b 59 e))
    (λ e. ap (λ (n : ℕ). n == 42) (eqb-true b 59 e)) (λ e. ap (λ (n : ℕ). n == 43) (eqb-true b 59 e))
    (λ e. ap (λ (n : ℕ). n == 40) (eqb-true b 59 e)) (λ e. ap (λ (n : ℕ). n == 41) (eqb-true b 59 e))

pub name_not_end : (bytes : List ℕ) → is_name bytes ≡ true → ends_expression bytes ≡ false
name_not_end [] name = refl
name_not_end (b ∷ c ∷ bs) name = refl
name_not_end (b ∷ []) name = elim (cases_Bool (b == 59)) [
  | inl end ↦ absurd (true≢false (sym name ∙ ap is_name_byte (eqb-true b 59 end)))
  | inr other ↦ other
]

symbol_end : {X : Type 0} (o : Operations X) (bytes : List ℕ) → is_end (symbol o bytes) ≡ ends_expression bytes
symbol_end {X} o bytes = elim (cases_Bool (is_name bytes)) [
  | inl name ↦ rw name (sym (name_not_end bytes name))
  | inr mark ↦ rw mark (mark_end X bytes)
]

-- what a step leads to
abbrev goes : {X : Type 0} → Outcome X → Bool
goes (Goes s) = true
goes _ = false

abbrev finishes : {X : Type 0} → Outcome X → Bool
finishes (Ends x) = true
finishes _ = false

opened_goes : (s t : State ℕ) → finishes (opened s t) ≡ false
opened_goes s t = elim
    (cases_Bool (nat_le 64 (length s.unfinished))) [ inl full ↦ rw full refl | inr room ↦ rw room refl ]

due_goes : (s : State ℕ) (x : Symbol ℕ) → finishes (due s x) ≡ false
due_goes s (Leaf x) = refl
due_goes s Complement = opened_goes s _
due_goes s Open = opened_goes s _
due_goes s Prime = refl
due_goes s Times = refl
due_goes s Plus = refl
due_goes s Close = refl
due_goes s End = refl
due_goes s Other = refl

closed_goes : (x : ℕ) (ops : List (Operator ℕ)) → finishes (closed x ops) ≡ false
closed_goes x [] = refl
closed_goes x (operators.Complement ∷ ops) = refl
closed_goes x (operators.Paren terms factors ∷ ops) = refl

ended_stays : {X : Type 0} (x : X) (ops : List (Operator X)) → goes (ended x ops) ≡ false
ended_stays x [] = refl
ended_stays x (op ∷ ops) = refl

-- a symbol other than `;` ends nothing
no_end : (o : Operations ℕ) (s : State ℕ) (m : Option ℕ) (x : Symbol ℕ) → is_end x ≡ false
    → finishes (step_at o s m x) ≡ false
no_end o s None x other = due_goes s x
no_end o s (Some v) (Leaf y) other = due_goes (next_factor o s v) (Leaf y)
no_end o s (Some v) Complement other = due_goes (next_factor o s v) Complement
no_end o s (Some v) Open other = due_goes (next_factor o s v) Open
no_end o s (Some v) Prime other = refl
no_end o s (Some v) Times other = refl
no_end o s (Some v) Plus other = refl
no_end o s (Some v) Close other = closed_goes (all_terms o s v) (still s.unfinished)
no_end o s (Some v) End other = absurd (true≢false other)
no_end o s (Some v) Other other = refl

-- `;` leads nowhere
no_more : {X : Type 0} (o : Operations X) (s : State X) (m : Option X) (x : Symbol X) → is_end x ≡ true
    → goes (step_at o s m x) ≡ false
no_more o s None End end = refl
no_more o s (Some v) End end = ended_stays (all_terms o s v) (still s.unfinished)
no_more o s m (Leaf y) end = absurd (true≢false (sym end))
no_more o s m Complement end = absurd (true≢false (sym end))
no_more o s m Open end = absurd (true≢false (sym end))
no_more o s m Prime end = absurd (true≢false (sym end))
no_more o s m Times end = absurd (true≢false (sym end))
no_more o s m Plus end = absurd (true≢false (sym end))
no_more o s m Close end = absurd (true≢false (sym end))
no_more o s m Other end = absurd (true≢false (sym end))

pub goes_not_end : {X : Type 0} (o : Operations X) (s t : State X) (bytes : List ℕ) → step o s (symbol o bytes)
    ≡ Goes t → ends_expression bytes ≡ false
unfolding step
goes_not_end o s t bytes on = elim (cases_Bool (ends_expression bytes)) [
  | inr fine ↦ fine
  | inl end ↦ absurd (true≢false (sym (ap goes on) ∙ no_more o s s.operand (symbol o bytes) (symbol_end o bytes ∙ end)))
]

ends_at_end : (o : Operations ℕ) (s : State ℕ) (x : ℕ) (bytes : List ℕ) → step o s (symbol o bytes) ≡ Ends x
    → ends_expression bytes ≡ true
unfolding step
ends_at_end o s x bytes ends = elim (cases_Bool (ends_expression bytes)) [
  | inl fine ↦ fine
  | inr other ↦ absurd (true≢false (sym (ap finishes ends)
      ∙ no_end o s s.operand (symbol o bytes) (symbol_end o bytes ∙ other)))
]

-- ---- one token
-- what is known of a token: the tokens before and behind it, the pins with it, and its symbol
pub record Taken (out : List ℕ) (pins new : Pins) (all rest : List Piece) (token : Piece) (x : Symbol ℕ) : Type 0 where
  pub first : all ≡ token ∷ rest
  pub pins_are : new ≡ with_token out pins token.bytes
  pub symbol_is : x ≡ symbol (tables new.names) token.bytes
  pub lawful : IsLawful out pins

module _ (out : List ℕ) (pins new : Pins) (all rest : List Piece) (token : Piece) (x : Symbol ℕ)
    (taken : Taken out pins new all rest token x) where
  -- it is the same in the end
  final : symbol (tables (pins_from out new rest).names) token.bytes ≡ x
  final = let same : symbol (tables (pins_from out (with_token out pins token.bytes) rest).names) token.bytes
      ≡ symbol
      (tables (with_token out pins token.bytes).names) token.bytes =
      symbol_stays out pins token.bytes rest taken.lawful in
      subst (λ (p : Pins). symbol (tables (pins_from out p rest).names) token.bytes
      ≡ symbol (tables p.names) token.bytes)
      (sym taken.pins_are) same ∙ sym taken.symbol_is

  pins_on : ends_expression token.bytes ≡ false → pins_from out pins all ≡ pins_from out new rest
  pins_on goes = rw (taken.first, goes, taken.pins_are) refl

  -- the token's step, over the final pins
  stepped : (names : List (List ℕ)) (s : State ℕ) (c : Outcome ℕ) → symbol (tables names) token.bytes ≡ x
      → step (tables []) s x ≡ c → step (tables names) s (symbol (tables names) token.bytes) ≡ c
  unfolding step
  stepped names s c is on = rw is on

  pub goes_on : (end : Pins) (s t : State ℕ) (result : Result (ℕ × Unread) Stop)
      → step (tables []) s x ≡ Goes t → pins_from out pins all ≡ end → read (tables end.names) s all ≡ result
      → (pins_from out new rest ≡ end) × (read (tables end.names) t rest ≡ result) × IsLawful out new
  goes_on end s t result on pins_are is =
      let here : symbol (tables new.names) token.bytes ≡ x = sym taken.symbol_is in
      let not_end : ends_expression token.bytes ≡ false =
      goes_not_end (tables new.names) s t token.bytes (stepped new.names s (Goes t) here on) in
      let same : pins_from out new rest ≡ end = sym (pins_on not_end) ∙ pins_are in
      let last : symbol (tables end.names) token.bytes ≡ x =
      subst (λ (p : Pins). symbol (tables p.names) token.bytes ≡ x) same final in
      let lead : read (tables end.names) s (token ∷ rest) ≡ read (tables end.names) t rest =
      ap (led (λ u. read (tables end.names) u rest) token) (stepped end.names s (Goes t) last on) in (
        same,
        sym lead ∙ subst (λ (ps : List Piece). read (tables end.names) s ps ≡ result) taken.first is,
        subst (IsLawful out) (sym taken.pins_are) (token_lawful out pins token.bytes taken.lawful),
      )

  pins_end : ends_expression token.bytes ≡ true → (pins_from out pins all ≡ pins) × (new ≡ pins)
  pins_end ends =
      let name : is_name token.bytes ≡ false = elim (cases_Bool (is_name token.bytes)) [
        | inl name ↦ absurd (true≢false (sym ends ∙ name_not_end token.bytes name))
        | inr mark ↦ mark
      ] in
      (rw (taken.first, ends) refl, taken.pins_are ∙ (rw name refl))

  pub ends_there : (end : Pins) (s : State ℕ) (v : ℕ) (result : Result (ℕ × Unread) Stop)
      → step (tables []) s x ≡ Ends v → pins_from out pins all ≡ end → read (tables end.names) s all ≡ result
      → (result ≡ Ok (v, token.rest)) × (new ≡ end)
  ends_there end s v result on pins_are is =
      let here : symbol (tables new.names) token.bytes ≡ x = sym taken.symbol_is in
      let ends : ends_expression token.bytes ≡ true =
      ends_at_end (tables new.names) s v token.bytes (stepped new.names s (Ends v) here on) in
      let at = pins_end ends in
      let same : new ≡ end = at.1 ∙ sym at.0 ∙ pins_are in
      let last : symbol (tables end.names) token.bytes ≡ x =
      subst (λ (p : Pins). symbol (tables p.names) token.bytes ≡ x) same here in
      let lead : read (tables end.names) s (token ∷ rest) ≡ Ok (v, token.rest) =
      ap (led (λ u. read (tables end.names) u rest) token) (stepped end.names s (Ends v) last on) in
      (sym is ∙ ap (read (tables end.names) s) taken.first ∙ lead, same)

  pub stops_there : (end : Pins) (s : State ℕ) (kind : TextKind) (result : Result (ℕ × Unread) Stop)
      → step (tables []) s x ≡ Stops kind → pins_from out pins all ≡ end → read (tables end.names) s all ≡ result
      → result ≡ Err (Fault token.line kind)
  stops_there end s kind result on pins_are is =
      let last : symbol (tables end.names) token.bytes ≡ x = by_end (ends_expression token.bytes) refl in
      let lead : read (tables end.names) s (token ∷ rest) ≡ Err (Fault token.line kind) =
      ap (led (λ u. read (tables end.names) u rest) token) (stepped end.names s (Stops kind) last on) in
      sym is ∙ ap (read (tables end.names) s) taken.first ∙ lead
    where
      by_end : (c : Bool) → ends_expression token.bytes ≡ c → symbol (tables end.names) token.bytes ≡ x
      by_end true ends =
          let at = pins_end ends in
          subst (λ (p : Pins). symbol (tables p.names) token.bytes ≡ x) (at.1 ∙ sym at.0 ∙ pins_are)
          (sym taken.symbol_is)
      by_end false other =
          subst (λ (p : Pins). symbol (tables p.names) token.bytes ≡ x) (sym (pins_on other) ∙ pins_are) final

pins_lawful : (out : List ℕ) (pins : Pins) (ps : List Piece) → IsLawful out pins → IsLawful out (pins_from out pins ps)
pins_lawful out pins [] ok = ok
pins_lawful out pins (t ∷ ps) ok = elim (cases_Bool (ends_expression t.bytes)) [
  | inl ends ↦ rw ends ok
  | inr on ↦ rw on (pins_lawful out (with_token out pins t.bytes) ps (token_lawful out pins t.bytes ok))
]

-- no more than a cell may have
pub pins_few : (out : List ℕ) (ps : List Piece) → length (pins_from out no_pins ps).names ≤ max_pins
pins_few out ps = (pins_lawful out no_pins ps (record { few = omega arith; other = refl })).few
