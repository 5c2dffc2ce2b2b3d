-- What stands behind `.end` isn't looked at: a text that gives a graph gives it with more behind it.
use Rattle.std.proofs.Common.{◌≡◌, ℕ, ◌+◌, ◌<◌, ◌==◌, Bool, true, false, List, [], ◌∷◌, ◌++◌, length, Option, Some}
use Rattle.std.proofs.Common.{None}
use Rattle.std.proofs.Common.{inl, inr, refl, sym, ap, subst, ◌∙◌, arith, append_assoc}
use Rattle.std.specs.List.{enumerate_from, join_with_byte}
use Rattle.std.proofs.lemmas.Bool.{cases_Bool}
use Rattle.si_base.specs.GivenGraph.{Sg}
use Rattle.si_base.specs.Faults.{at_line, ◌otherwise◌}
use Rattle.si_base.specs.Lines.{Line, lines_of, numbered, put_first}
use Rattle.si_base.specs.Words.{text_of}
use Rattle.si_base.specs.declared.fault.TextKind.{TextKind}
use Rattle.si_sg.specs.CanonicalText.{sg_lines, sg_text}
use Rattle.si_sg.specs.GivenGraph.{IsCutOf, IsGivenBy, signals_in}
use Rattle.si_sg.specs.GraphText.{after_header, graph_fault, header_line_fault, header_line_with, header_lines_fault}
use Rattle.si_sg.specs.GraphText.{header_of, header_says, section_line_fault, section_line_with, section_lines_fault}
use Rattle.si_sg.specs.GraphText.{section_of, section_says, words}
use Rattle.si_sg.specs.Header.{Header, declared, is_state_graph, no_header}
use Rattle.si_sg.specs.Section.{Section, end_fault, is_end, no_section}
use Rattle.si_words.specs.Ends.{after_last}

-- ---- lines of a text that ends with a line
some_put : (b : ℕ) (ls : List (List ℕ)) → 0 < length (put_first b ls)
some_put b [] = omega arith
some_put b (l ∷ ls) = omega arith

put_more : (b : ℕ) (ls more : List (List ℕ)) → 0 < length ls → put_first b (ls ++ more) ≡ put_first b ls ++ more
put_more b [] more some = absurd (omega (arith, some))
put_more b (l ∷ ls) more some = refl

some_line : (t : List ℕ) → 0 < length (lines_of (t ++ 10 ∷ []))
some_line [] = omega arith
some_line (b ∷ t) = elim (cases_Bool (b == 10)) [
  | inl feed ↦ rw feed (omega arith)
  | inr other ↦ rw other (some_put b (lines_of (t ++ 10 ∷ [])))
]

line_and_more : (t more : List ℕ) → lines_of (t ++ 10 ∷ more) ≡ lines_of (t ++ 10 ∷ []) ++ lines_of more
line_and_more [] more = refl
line_and_more (b ∷ t) more = elim (cases_Bool (b == 10)) [
  | inl feed ↦ rw feed (ap (λ (ls : List (List ℕ)). [] ∷ ls) (line_and_more t more))
  | inr other ↦ rw other (ap (put_first b) (line_and_more t more)
      ∙ put_more b (lines_of (t ++ 10 ∷ [])) (lines_of more) (some_line t))
]

text_and_more : (ls : List (List (List ℕ))) (more : List ℕ)
    → lines_of (text_of ls ++ more) ≡ lines_of (text_of ls) ++ lines_of more
text_and_more [] more = refl
text_and_more (ws ∷ ls) more =
    let front = join_with_byte 32 ws in
    let rest = text_of ls in
    let flat : (text_of (ws ∷ ls) ++ more) ≡ front ++ 10 ∷ (rest ++ more) =
    append_assoc (front ++ 10 ∷ []) rest more ∙ append_assoc front (10 ∷ []) (rest ++ more) in
    let split : lines_of (text_of (ws ∷ ls)) ≡ lines_of (front ++ 10 ∷ []) ++ lines_of rest =
    ap lines_of (append_assoc front (10 ∷ []) rest) ∙ line_and_more front rest in
    ap lines_of flat ∙ line_and_more front (rest ++ more)
    ∙ ap (λ (ls2 : List (List ℕ)). lines_of (front ++ 10 ∷ []) ++ ls2) (text_and_more ls more)
    ∙ sym (append_assoc (lines_of (front ++ 10 ∷ [])) (lines_of rest) (lines_of more))
    ∙ ap (λ (ls2 : List (List ℕ)). ls2 ++ lines_of more) (sym split)

numbers_and_more : (n : ℕ) (xs ys : List (List ℕ))
    → (more : List Line) × (enumerate_from n (xs ++ ys) ≡ enumerate_from n xs ++ more)
numbers_and_more n [] ys = (enumerate_from n ys, refl)
numbers_and_more n (x ∷ xs) ys =
    let rest = numbers_and_more (n + 1) xs ys in (rest.0, ap (λ (ls : List Line). (n, x) ∷ ls) rest.1)

numbered_and_more : (ls : List (List (List ℕ))) (more : List ℕ)
    → (lines : List Line) × (numbered (text_of ls ++ more) ≡ numbered (text_of ls) ++ lines)
numbered_and_more ls more =
    let rest = numbers_and_more 1 (lines_of (text_of ls)) (lines_of more) in
    (rest.0, ap (enumerate_from 1) (text_and_more ls more) ∙ rest.1)

-- ---- lines behind an end
first_none : (n : ℕ) (kind : Option TextKind) (later : Option (ℕ × TextKind))
    → (at_line n kind otherwise later) ≡ None → (kind ≡ None) × (later ≡ None)
first_none n None later none = (refl, none)
first_none n (Some kind) later none = cc

module _ (last next : ℕ) (more : List Line) where
  section_fault_more : (signals : List (List ℕ)) (x : Section) (lines : List Line)
      → section_lines_fault last signals x lines ≡ None → section_lines_fault next signals x (lines ++ more) ≡ None
  section_fault_more signals x [] none = cc
  section_fault_more signals x (line ∷ lines) none =
      let clean = first_none line.0 (section_line_fault signals x line.1) _ none in
      elim (cases_Bool (is_end (words line.1))) [
        | inl end ↦ rw (clean.0, end) (rw end at clean.1)
        | inr other ↦ rw (clean.0, other)
            (section_fault_more signals (section_line_with signals x line) lines (rw other at clean.1))
      ]

  section_says_more : (signals : List (List ℕ)) (x : Section) (lines : List Line)
      → section_lines_fault last signals x lines ≡ None
      → section_says signals x (lines ++ more) ≡ section_says signals x lines
  section_says_more signals x [] none = cc
  section_says_more signals x (line ∷ lines) none =
      let clean = first_none line.0 (section_line_fault signals x line.1) _ none in
      elim (cases_Bool (is_end (words line.1))) [
        | inl end ↦ rw end refl
        | inr other ↦ rw other
            (section_says_more signals (section_line_with signals x line) lines (rw other at clean.1))
      ]

  -- a header without fault has an end, and the section behind it is without fault
  record HeaderEnds (h : Header) (lines : List Line) : Type 0 where
    says : header_says h (lines ++ more) ≡ header_says h lines
    after : after_header (lines ++ more) ≡ after_header lines ++ more
    section : section_lines_fault last (declared (header_says h lines)) no_section (after_header lines) ≡ None
    no_fault : header_lines_fault next h (lines ++ more) ≡ None

  header_ends : (h : Header) (lines : List Line) → header_lines_fault last h lines ≡ None → HeaderEnds h lines
  header_ends h [] none = cc
  header_ends h (line ∷ lines) none =
      let clean = first_none line.0 (header_line_fault h line.1) _ none in
      elim (cases_Bool (is_state_graph (words line.1))) [
        | inl end ↦ (
            let section = rw end at clean.1 in
            record {
              says = rw end refl;
              after = rw end refl;
              section = rw end section;
              no_fault = rw (clean.0, end) (section_fault_more _ no_section lines section);
            })
        | inr other ↦ (
            let rest = header_ends (header_line_with h line) lines (rw other at clean.1) in
            record {
              says = rw other rest.says;
              after = rw other rest.after;
              section = rw other rest.section;
              no_fault = rw (clean.0, other) rest.no_fault;
            })
      ]

-- ---- a text and more
text_gives : (ls : List (List (List ℕ))) (more : List ℕ) (sg : Sg) → IsGivenBy (text_of ls) sg
    → IsGivenBy (text_of ls ++ more) sg
text_gives ls more sg given =
    let text = text_of ls in
    let whole = text ++ more in
    let split = numbered_and_more ls more in
    let ends = header_ends (after_last text) (after_last whole) split.0 no_header (numbered text) given.no_fault in
    let header : header_of whole ≡ header_of text = ap (header_says no_header) split.1 ∙ ends.says in
    let after : after_header (numbered whole) ≡ after_header (numbered text) ++ split.0 =
    ap after_header split.1 ∙ ends.after in
    let section : section_of whole ≡ section_of text = rw (header, after)
    (section_says_more (after_last text) (after_last whole) split.0 (declared (header_of text)) no_section
    (after_header (numbered text)) ends.section) in
    record {
      no_fault = ap (header_lines_fault (after_last whole) no_header) split.1 ∙ ends.no_fault;
      is = subst (λ (x : Section). IsCutOf (header_of whole).models (signals_in (header_of whole)) x sg) (sym section)
          (subst (λ (h : Header). IsCutOf h.models (signals_in h) (section_of text) sg) (sym header) given.is);
    }

pub gives_with_more : (sg of : Sg) (more : List ℕ) → IsGivenBy (sg_text of) sg → IsGivenBy (sg_text of ++ more) sg
unfolding sg_text
gives_with_more sg of more given = text_gives (sg_lines of) more sg given
