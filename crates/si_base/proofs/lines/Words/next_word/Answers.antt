use Rattle.std.proofs.Common.{◌≡◌, ℕ, Bool, false, ◌∷◌, [], List, length, sym, ◌∙◌, ap, max, drop, take, eqb, eqb-true}
use Rattle.std.specs.List.{prefix_len}
use Rattle.std.proofs.lemmas.List.{nil_from_length}
use Rattle.si_base.specs.Lines.{words_in, is_blank, is_plain}
use Rattle.si_base.proofs.LineLemmas.{skip_blanks, first_word, dark_after}
use Rattle.si_base.proofs.lines.Words.next_word.Goals as goal

pub returns-then-is_empty : goal.returns-then-is_empty
returns-then-is_empty c =
    let none = nil_from_length _ (eqb-true _ 0 (sym c.if-is_empty.ensures)) in (
      sym c.self.view_is ∙ sym (skip_blanks c.self.inside.braces _ _ c.blank_len-blanks.ensures.len)
          ∙ ap (words_in c.self.inside.braces) (sym c.split_at.ensures.back ∙ none),
      ap (words_in c.self.inside.braces)
          none,
    )

step : (braces : Bool) (xs ys word after : List ℕ) (k run n : ℕ) → k ≡ prefix_len is_blank xs → ys ≡ drop k xs
    → eqb (length ys) 0 ≡ false → run ≡ prefix_len (is_plain braces) ys → n ≡ max run 1 → word ≡ take n ys
    → after ≡ drop n ys → words_in braces xs ≡ word ∷ words_in braces after
step braces xs [] word after k run n ek ey some er en ew ea = cc
step braces xs (y ∷ ys) word after k run n ek ey some er en ew ea =
    sym (skip_blanks braces xs k ek) ∙ ap (words_in braces) (sym ey)
    ∙ first_word braces y ys n (dark_after xs k y ys ek ey) (en ∙ ap (λ r. max r 1) er)
    ∙ ap (λ w. w ∷ words_in braces (drop n (y ∷ ys))) (sym ew) ∙ ap (λ a. word ∷ words_in braces a) (sym ea)

pub returns : goal.returns
returns c = rw (← c.self.view_is) (step _ _ _ _ _ _ _ _ c.blank_len-blanks.ensures.len c.split_at.ensures.back
    (sym c.if-is_empty.ensures) c.plain_len-run.ensures.len c.max-len.ensures c.split_at-2.ensures.front
    c.split_at-2.ensures.back)
