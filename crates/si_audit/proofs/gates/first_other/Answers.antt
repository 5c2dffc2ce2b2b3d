use Rattle.std.proofs.Common.{rules, ◌≡◌, ℕ, sym, subst, ◌∙◌, arith, inl, inr}
use Rattle.std.proofs.lemmas.Bool.{cases_lt}
use Rattle.si_base.specs.Codes.{next_value}
use Rattle.si_base.specs.Sets.{flag}
use Rattle.si_audit.proofs.gates.first_other.Goals as goal

pub loop-s-preserved : goal.loop-s-preserved
loop-s-preserved c =
    let P : ℕ → Type 0 = λ t. flag c.args.values.now t ≡ next_value c.args.coded.now t c.args.z in
    λ t below. elim (cases_lt t c.loop-s.s) [
      | inl less ↦ c.loop-s.invariant t less
      | inr past ↦ (
          let here : t ≡ c.loop-s.s = omega arith in
          let same : c.get.result ≡ c.next_value.result = search rules in
          subst P (sym here) (sym c.get.ensures ∙ same ∙ c.next_value.ensures))
    ]
