use Rattle.std.proofs.Common.{◌≡◌, ◌+◌, ℕ, true, false, length, sym, ap, ◌∙◌, arith}
use Rattle.std.proofs.lemmas.Bool.{true≢false}
use Rattle.si_audit.proofs.WordParts.{mark_size}
use Rattle.si_audit.proofs.words.is_mark.Goals as goal

pub returns-then-bytes-k : goal.returns-then-bytes-k
returns-then-bytes-k c = (
  λ (e : false ≡ true). absurd (true≢false (sym e)),
  λ same. (
      let size : length c.args.bytes.now ≡ c.args.k + 1 =
      ap (length {A = ℕ}) same ∙ mark_size c.args.k c.args.bits (omega (arith, c.if-k-eq0.false)) in
      absurd (c.if-bytes-k.true size)),
)
