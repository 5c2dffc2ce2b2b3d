use Rattle.std.proofs.Common.{rules, tests, ◌∙◌, List, ℕ, bytes_eq}
use Rattle.std.proofs.lemmas.Iterator.{YieldsList-from_slice}
use Rattle.std.proofs.lemmas.Iterator.Search.{any_from_yields_List}
use Rattle.std.specs.Borrow.{Bor}
use Rattle.si_words.proofs.SumWordLemmas.{list_any-map}
use Rattle.si_commands.proofs.form.is_listed.Goals as goal

pub returns : goal.returns
returns c = any_from_yields_List {all = c.args.words.now} (λ (w : Bor (List ℕ)). bytes_eq c.args.word.now w.now) _ _ _
    c.any.ensures.ran (YieldsList-from_slice c.args.words.now cc) (λ x b q k. search (rules, tests))
    ∙ list_any-map (λ (w : Bor (List ℕ)). w.now) (bytes_eq c.args.word.now) c.args.words.now
