use Rattle.std.proofs.Common.{◌≡◌, ◌≤◌, ◌-◌, ◌∙◌, ℕ, List, [], length, get_or, ap, sym, arith}
use Rattle.std.proofs.lemmas.List.{get_or-map, length-map}
use Rattle.std.specs.Borrow.{Bor}
use Rattle.si_words.specs.Loops.Reads.{words_now}
use Rattle.si_verilog_reader.proofs.KeywordLemmas.{too_short, too_long, found_in}
use Rattle.si_verilog_reader.proofs.keywords.is_among.Goals as goal

abbrev now : Bor (List ℕ) → List ℕ
now w = w.now

pub returns-then-len-lt-SHORTEST : goal.returns-then-len-lt-SHORTEST
returns-then-len-lt-SHORTEST c = too_short c.args.word.now c.if-len-lt-SHORTEST.true

pub returns-in-None : goal.returns-in-None
returns-in-None c =
    let held = c.args.by_length.now in
    let long : length (words_now held) ≤ length c.args.word.now - 2 =
    omega (arith, length-map held now, c.in-None.ensures.lookup.3) in
    too_long (words_now held) c.requires c.args.word.now long

pub returns-in-Some : goal.returns-in-Some
returns-in-Some c =
    let held = c.args.by_length.now in
    let k = length c.args.word.now - 2 in
    let lookup = c.in-Some.ensures.lookup in
    let text = c.in-Some.words.now in
    let here : text.now ≡ get_or (words_now held) k [] =
    ap now lookup.1 ∙ sym (get_or-map now held k text [] lookup.3.0) in
    c.has_word.ensures
    ∙ found_in (words_now held) c.requires c.args.word.now text.now c.if-len-lt-SHORTEST.false
    (omega (arith, length-map held now, lookup.3.0)) here
