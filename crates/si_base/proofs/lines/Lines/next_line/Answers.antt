use Rattle.std.proofs.Common.{◌≡◌, ℕ, ◌+◌, suc, ◌∷◌, [], List, length, sym, refl, min, drop, take, eqb, not, add-one}
use Rattle.std.proofs.Common.{false}
use Rattle.std.specs.List.{enumerate_from, prefix_len}
use Rattle.std.proofs.lemmas.List.{drop_min}
use Rattle.si_base.specs.Lines.{lines_of}
use Rattle.si_base.proofs.LineLemmas.{first_line}
use Rattle.si_base.proofs.lines.Lines.next_line.Goals as goal

-- one line taken from a text that is not empty
step : (xs line after : List ℕ) (number n m : ℕ) → eqb (length xs) 0 ≡ false → n ≡ prefix_len (λ b. not (eqb b 10)) xs
    → m ≡ min (n + 1) (length xs) → line ≡ take n xs → after ≡ drop m xs
    → enumerate_from number (lines_of xs) ≡ (number, line) ∷ enumerate_from (number + 1) (lines_of after)
step [] line after number n m some en em el ea = cc
step (b ∷ bs) line after number n m some en em el ea =
    let same : after ≡ drop (suc n) (b ∷ bs) = rw (ea, em, drop_min (n + 1) (b ∷ bs), add-one) refl in
    rw (first_line b bs n en, el, same) refl

pub returns : goal.returns
returns c = rw (← c.self.view_is) (step _ _ _ _ _ _ (sym c.if-is_empty.ensures) c.len_before-end.ensures.len
    c.min.ensures c.split_at.ensures.front c.split_at-2.ensures.back)
