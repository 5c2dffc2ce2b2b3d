-- The turns by which a cube grows, and the grown cubes of a list of codes.
use Rattle.std.proofs.Common.{◌≡◌, ℕ, zero, suc, ◌+◌, ◌-◌, ◌<◌, ◌==◌, not, true, false, List, [], ◌∷◌, ◌++◌}
use Rattle.std.proofs.Common.{refl, sym, ap, ap₂, ◌∙◌, arith, inl, inr, append_assoc}
use Rattle.std.proofs.Common.{eq-eqb}
use Rattle.std.proofs.lemmas.Bool.{ne_eqb}
use Rattle.std.proofs.lemmas.List.Elements.{filter-append}
use Rattle.si_base.specs.declared.ids.Literal.{Literal}
use Rattle.si_base.specs.Bits.{bit}
use Rattle.si_base.proofs.OrderAscending.{In}
use Rattle.si_cube.specs.Literals.{full_literals}
use Rattle.si_cube.specs.Covers.{without}
use Rattle.si_cube.specs.Needed.{needed_from}
use Rattle.si_cube.specs.Rule.{covers_any, is_needless_literal, grown}
use Rattle.si_cube.proofs.NeededLemmas.{in_append}

-- ---- a cube that is growing
-- the literals of the signals below the s-th that stay, and all others; what is still to go leads to the grown cube
pub record IsGrowing (signals : ℕ) (forbidden : List ℕ) (code s : ℕ) (cube : List Literal) : Type 0 where
  pub stays : List Literal
  pub below : (l : Literal) → In l stays → l.sig < s
  pub is : cube ≡ stays ++ full_literals (signals - s) s code
  pub goes_on : stays ++ needed_from (is_needless_literal forbidden) stays (full_literals (signals - s) s code)
      ≡ grown signals forbidden code

pub growth_start : (signals : ℕ) (forbidden : List ℕ) (code : ℕ)
    → IsGrowing signals forbidden code 0 (full_literals signals 0 code)
growth_start signals forbidden code =
    let all : signals - 0 ≡ signals = omega arith in
    record { stays = []; below = λ l none. absurd none; is = rw all refl; goes_on = rw all refl }

keeps_below : (s : ℕ) (ls : List Literal) → ((l : Literal) → In l ls → l.sig < s) → without s ls ≡ ls
keeps_below s [] below = refl
keeps_below s (l ∷ ls) below =
    let under : l.sig < s = below l (inl refl) in
    let other : (l.sig == s) ≡ false = ne_eqb l.sig s (omega arith) in
    rw other (ap (λ (ms : List Literal). l ∷ ms) (keeps_below s ls (λ m later. below m (inr later))))

keeps_above : (s n i code : ℕ) → s < i → without s (full_literals n i code) ≡ full_literals n i code
keeps_above s zero i code above = refl
keeps_above s (suc n) i code above =
    let other : (i == s) ≡ false = ne_eqb i s (omega arith) in
    rw other (ap (λ (ms : List Literal). record { sig = i; plain = bit code i } ∷ ms)
    (keeps_above s n (i + 1) code (omega arith)))

drops_here : (s n code : ℕ) → without s (full_literals (suc n) s code) ≡ full_literals n (s + 1) code
drops_here s n code =
    let same : (s == s) ≡ true = eq-eqb s s refl in
    rw same (keeps_above s n (s + 1) code (omega arith))

-- the cube without its literal of the s-th signal
pub smaller_is : (signals : ℕ) (forbidden : List ℕ) (code s : ℕ) (cube : List Literal)
    (growing : IsGrowing signals forbidden code s cube) → s < signals
    → without s cube ≡ growing.stays ++ full_literals (signals - (s + 1)) (s + 1) code
smaller_is signals forbidden code s cube growing within =
    let more : signals - s ≡ suc (signals - (s + 1)) = omega arith in
    let is : cube ≡ growing.stays ++ full_literals (suc (signals - (s + 1))) s code = rw more at growing.is in
    ap (without s) is
    ∙ filter-append (λ (l : Literal). not (l.sig == s)) growing.stays (full_literals (suc (signals - (s + 1))) s code)
    ∙ ap₂ (λ (xs ys : List Literal). xs ++ ys) (keeps_below s growing.stays growing.below)
    (drops_here s (signals - (s + 1)) code)

pub growth_drop : (signals : ℕ) (forbidden : List ℕ) (code s : ℕ) (cube : List Literal) → s < signals
    → covers_any forbidden (without s cube) ≡ false
    → IsGrowing signals forbidden code s cube → IsGrowing signals forbidden code (s + 1) (without s cube)
growth_drop signals forbidden code s cube within fails growing =
    let is = smaller_is signals forbidden code s cube growing within in
    let none : covers_any forbidden (growing.stays ++ full_literals (signals - (s + 1)) (s + 1) code) ≡ false =
    ap (covers_any forbidden) (sym is) ∙ fails in
    let more : signals - s ≡ suc (signals - (s + 1)) = omega arith in
    record {
      stays = growing.stays;
      below = λ l here. (let under : l.sig < s = growing.below l here in omega arith);
      is = is;
      goes_on = rw none at (rw more at growing.goes_on);
    }

pub growth_keep : (signals : ℕ) (forbidden : List ℕ) (code s : ℕ) (cube : List Literal) → s < signals
    → covers_any forbidden (without s cube) ≡ true
    → IsGrowing signals forbidden code s cube → IsGrowing signals forbidden code (s + 1) cube
growth_keep signals forbidden code s cube within holds growing =
    let l : Literal = record { sig = s; plain = bit code s } in
    let rest : List Literal = full_literals (signals - (s + 1)) (s + 1) code in
    let is = smaller_is signals forbidden code s cube growing within in
    let some : covers_any forbidden (growing.stays ++ rest) ≡ true = ap (covers_any forbidden) (sym is) ∙ holds in
    let more : signals - s ≡ suc (signals - (s + 1)) = omega arith in
    let whole : cube ≡ growing.stays ++ l ∷ rest = rw more at growing.is in
    let goes_on : growing.stays ++ l
    ∷ needed_from (is_needless_literal forbidden) (growing.stays ++ l ∷ []) rest ≡ grown signals forbidden code =
    rw some at (rw more at growing.goes_on) in
    record {
      stays = growing.stays ++ l ∷ [];
      below = λ m here. elim (in_append growing.stays (l ∷ []) m here) [
        | inl old ↦ (let under : m.sig < s = growing.below m old in omega arith)
        | inr new ↦ elim new [
          | inl same ↦ (let at : m.sig ≡ s = ap (λ (x : Literal). x.sig) same in omega arith)
          | inr none ↦ absurd none
        ]
      ];
      is = whole ∙ sym (append_assoc growing.stays (l ∷ []) rest);
      goes_on =
          append_assoc growing.stays (l ∷ [])
          (needed_from (is_needless_literal forbidden) (growing.stays ++ l ∷ []) rest) ∙ goes_on;
    }
