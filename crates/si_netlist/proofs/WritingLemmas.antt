-- What the writers of a netlist's text have still to add, a step at a time.
use Rattle.std.proofs.Common.{◌≡◌, ℕ, ◌+◌, ◌<◌, ◌==◌, false, List, [], ◌∷◌, ◌++◌, sym, ap, ◌∙◌, length, drop}
use Rattle.std.proofs.Common.{map, if◌then◌else◌, add-one, append_assoc, drop-cons, Some, slice_get, codes, arith, inl}
use Rattle.std.proofs.Common.{inr}
use Rattle.std.proofs.lemmas.Option.{slice_get_cases, slice_get_within, get_or_from_slice_get}
use Rattle.std.proofs.lemmas.Grind.{flat_map-append}
use Rattle.std.proofs.lemmas.List.{append-nil, drop_more}
use Rattle.si_base.specs.declared.graph.Signal.{Signal}
use Rattle.si_base.specs.declared.graph.SigKind.TheVariants.{Input, Output, Internal, Inserted}
use Rattle.si_base.specs.Bits.{bit}
use Rattle.si_base.specs.Words.{line, text_of}
use Rattle.si_base.specs.Netlist.{Gate, Insertion, Netlist}
use Rattle.si_base.specs.NetlistText.{names_of, bits_from, word_if_any, insert_line, netlist_text}
use Rattle.si_netlist.specs.Loops.Writing.{gate_lines}
use Rattle.si_words.proofs.WritingLemmas.{joined_words}
use Rattle.si_words.specs.Loops.Writing.{spaced}

pub start_word : (text : List ℕ) (signals : List Signal) (code : ℕ) → (length signals == 0) ≡ false
    → (text ++ 32 ∷ []) ++ bits_from 0 signals code ≡ text ++ spaced (word_if_any (bits_from 0 signals code))
start_word text [] code some = cc
start_word text (x ∷ xs) code some = simp (append_assoc, append-nil)

-- the words from the i-th on
abbrev pub words_from : List (List ℕ) → ℕ → List ℕ
words_from words i = spaced (drop i words)

pub words_more : (words : List (List ℕ)) (k : ℕ) (word old text new : List ℕ) → slice_get words k ≡ Some word
    → text ++ words_from words k ≡ old ++ words_from words 0 → new ≡ text ++ 32 ∷ word
    → new ++ words_from words (k + 1) ≡ old ++ words_from words 0
words_more words k word old text new at so_far is =
    let here : drop k words ≡ word ∷ drop (k + 1) words =
    drop_more words k word (slice_get_within words k word at)
    ∙ ap (λ (w : List ℕ). w ∷ drop (k + 1) words) (get_or_from_slice_get words k word word at) in
    ap (λ (t : List ℕ). t ++ words_from words (k + 1)) is
    ∙ append_assoc text (32 ∷ word) (words_from words (k + 1))
    ∙ ap (λ (ws : List (List ℕ)). text ++ spaced ws) (sym here) ∙ so_far

-- the lines of the insertions from the i-th on
abbrev pub inserts_from : List Insertion → ℕ → List ℕ
inserts_from inserts i = text_of (map insert_line (drop i inserts))

-- the digits from the i-th signal on
bits_at : (signals : List Signal) (code i : ℕ) (x : Signal) (text : List ℕ) → i < length signals
    → (text ++ (if bit code i then 49 else 48) ∷ []) ++ bits_from (i + 1) (drop (i + 1) signals) code
    ≡ text ++ bits_from i (drop i signals) code
bits_at signals code i x text within = rw (add-one, drop-cons signals i x) (rw add-one (simp append_assoc))

pub bits_more : (signals : List Signal) (code i : ℕ) (text : List ℕ) → i < length signals
    → (text ++ (if bit code i then 49 else 48) ∷ []) ++ bits_from (i + 1) (drop (i + 1) signals) code
    ≡ text ++ bits_from i (drop i signals) code
bits_more signals code i text within =
    elim (slice_get_cases signals i).1 [
      | inl there ↦ bits_at signals code i there.0 text within
      | inr past ↦ absurd (omega (arith, past.0))
    ]

-- the lines of the gates, the next of which is that of a signal from the i-th on
abbrev pub gates_from : List Signal → ℕ → List Gate → List ℕ
gates_from signals i gates = text_of (gate_lines signals (drop i signals) gates)

seven_parts : (text a b c d e f g : List ℕ)
    → ((((((text ++ a) ++ b) ++ c) ++ d) ++ e) ++ f) ++ g ≡ text ++ ((a ++ (b ++ (c ++ (d ++ (e ++ f))))) ++ g)
seven_parts text a b c d e f g = simp append_assoc

insert_words : (name up down : List ℕ) (ups downs : List (List ℕ))
    → spaced (name ∷ up ∷ (ups ++ down ∷ downs))
    ≡ 32 ∷ (name ++ 32 ∷ (up ++ (spaced ups ++ 32 ∷ (down ++ spaced downs))))
insert_words name up down ups downs =
    ap (λ (t : List ℕ). 32 ∷ (name ++ 32 ∷ (up ++ t))) (flat_map-append (λ (w : List ℕ). 32 ∷ w) ups (down ∷ downs))

-- the words of an insertion, each as it is written
pub insert_whole : (text : List ℕ) (i : Insertion)
    → ((((((text ++ codes ".insert") ++ 32 ∷ i.name) ++ 32 ∷ codes "up") ++ spaced i.up) ++ 32 ∷ codes "down")
    ++ spaced i.down) ++ 10 ∷ [] ≡ text ++ line (insert_line i)
insert_whole text i =
    let words : List (List ℕ) = i.name ∷ codes "up" ∷ (i.up ++ codes "down" ∷ i.down) in
    seven_parts text (codes ".insert") (32 ∷ i.name) (32 ∷ codes "up") (spaced i.up) (32 ∷ codes "down")
    (spaced i.down) (10 ∷ [])
    ∙ ap (λ (t : List ℕ). text ++ ((codes ".insert" ++ t) ++ 10 ∷ []))
    (sym (insert_words i.name (codes "up") (codes "down") i.up i.down))
    ∙ ap (λ (t : List ℕ). text ++ (t ++ 10 ∷ [])) (sym (joined_words (codes ".insert") words))

-- the same, by the texts that the calls leave one after another
pub insert_by_calls : (i : Insertion) (text head named rising up falling down : List ℕ)
    → head ≡ text ++ codes ".insert" → named ≡ head ++ 32 ∷ i.name → rising ≡ named ++ 32 ∷ codes "up"
    → up ≡ rising ++ spaced i.up
    → falling ≡ up ++ 32 ∷ codes "down" → down ≡ falling ++ spaced i.down
    → down ++ 10 ∷ [] ≡ text ++ line (insert_line i)
insert_by_calls i text head named rising up falling down e1 e2 e3 e4 e5 e6 =
    rw (e6, e5, e4, e3, e2, e1) (insert_whole text i)

text_of_parts : (inserts gates : List (List (List ℕ))) (g e : List (List ℕ))
    → text_of ((inserts ++ g ∷ gates) ++ e ∷ []) ≡ (text_of inserts ++ (line g ++ text_of gates)) ++ line e
text_of_parts inserts gates g e =
    flat_map-append line (inserts ++ g ∷ gates) (e ∷ [])
    ∙ ap (λ (t : List ℕ). text_of (inserts ++ g ∷ gates) ++ t) (append-nil (line e))
    ∙ ap (λ (t : List ℕ). t ++ line e) (flat_map-append line inserts (g ∷ gates))

ten_parts : (m i o n s t a b c d : List ℕ) → ((((((((m ++ i) ++ o) ++ n) ++ s) ++ t) ++ a) ++ b) ++ c) ++ d
    ≡ m ++ (i ++ (o ++ (n ++ (s ++ (t ++ ((a ++ (b ++ c)) ++ d))))))
ten_parts m i o n s t a b c d = simp append_assoc

together : (m i o n s t : List ℕ) (inserts gates : List (List (List ℕ))) (g e : List (List ℕ))
    → ((((((((m ++ i) ++ o) ++ n) ++ s) ++ t) ++ text_of inserts) ++ line g) ++ text_of gates) ++ line e
    ≡ m ++ (i ++ (o ++ (n ++ (s ++ (t ++ text_of ((inserts ++ g ∷ gates) ++ e ∷ []))))))
together m i o n s t inserts gates g e =
    ten_parts m i o n s t (text_of inserts) (line g) (text_of gates) (line e)
    ∙ ap (λ (r : List ℕ). m ++ (i ++ (o ++ (n ++ (s ++ (t ++ r)))))) (sym (text_of_parts inserts gates g e))

-- the lines one after another, each as it is written
pub whole_text : (n : Netlist)
    → (((((((((((codes ".version 2\n.model" ++ 32 ∷ n.model) ++ 10 ∷ [])
    ++ line (codes ".inputs" ∷ names_of Input n.signals)) ++ line (codes ".outputs" ∷ names_of Output n.signals))
    ++ line (codes ".internal" ∷ names_of Internal n.signals))
    ++ line (codes ".inserted" ∷ names_of Inserted n.signals))
    ++ line (codes ".start" ∷ word_if_any (bits_from 0 n.signals n.start))) ++ text_of (map insert_line n.inserts))
    ++ line (codes ".gates" ∷ []))
    ++ text_of (gate_lines n.signals n.signals n.gates)) ++ line (codes ".end" ∷ []))
    ≡ netlist_text n
unfolding netlist_text
whole_text n = together (codes ".version 2\n" ++ line (codes ".model" ∷ n.model ∷ []))
    (line (codes ".inputs" ∷ names_of Input n.signals)) (line (codes ".outputs" ∷ names_of Output n.signals))
    (line (codes ".internal" ∷ names_of Internal n.signals)) (line (codes ".inserted" ∷ names_of Inserted n.signals))
    (line (codes ".start" ∷ word_if_any (bits_from 0 n.signals n.start)))
    (map insert_line n.inserts) (gate_lines n.signals n.signals n.gates) (codes ".gates" ∷ []) (codes ".end" ∷ [])

-- the same, by the texts that the calls leave one after another
pub text_by_calls : (n : Netlist)
    (word named ended inputs outputs internal inserted started inserts headed gated all : List ℕ)
    → word ≡ codes ".version 2\n.model" → named ≡ word ++ 32 ∷ n.model → ended ≡ named ++ 10 ∷ []
    → inputs ≡ ended ++ line (codes ".inputs" ∷ names_of Input n.signals)
    → outputs ≡ inputs ++ line (codes ".outputs" ∷ names_of Output n.signals)
    → internal ≡ outputs ++ line (codes ".internal" ∷ names_of Internal n.signals)
    → inserted ≡ internal ++ line (codes ".inserted" ∷ names_of Inserted n.signals)
    → started ≡ inserted ++ line (codes ".start" ∷ word_if_any (bits_from 0 n.signals n.start))
    → inserts ≡ started ++ text_of (map insert_line n.inserts)
    → headed ≡ inserts ++ line (codes ".gates" ∷ [])
    → gated ≡ headed ++ text_of (gate_lines n.signals n.signals n.gates) → all ≡ gated ++ line (codes ".end" ∷ [])
    → all ≡ netlist_text n
text_by_calls n word named ended inputs outputs internal inserted started inserts headed gated all e1 e2 e3 e4 e5
    e6 e7 e8 e9 e10 e11 e12 =
    rw (e12, e11, e10, e9, e8, e7, e6, e5, e4, e3, e2, e1) (whole_text n)
