-- Pictures of small graphs, as texts; strings that hold quotes, backslashes and `&`; and texts that aren't read.
use Rattle.std.proofs.Common.{◌≡◌, ℕ, true, false, List, [], ◌∷◌, ◌++◌, flat_map, refl, codes, lit<}
use Rattle.std.proofs.lemmas.Fmt.{decimal_digit}
use Rattle.si_base.specs.declared.graph.SigKind.TheVariants.{Input, Output}
use Rattle.si_base.specs.Codes.{CodedGraph}
use Rattle.si_base.specs.Graph.{StateGraph, arc, rise, fall}
use Rattle.si_pictures.specs.CodeWord.{code_word}
use Rattle.si_pictures.specs.InConflict.{is_among}
use Rattle.si_pictures.specs.Picture.{picture, title}
use Rattle.si_pictures.specs.Seen.{is_breach_arc, is_breach_state}
use Rattle.si_pictures.specs.StatesText.{states_text}
use Rattle.si_pictures.specs.Tokens.{Id, Keyword, Quoted, Mark, Unread, tokens_of}
use Rattle.si_pictures.specs.Writing.{escaped_byte, dot_text}
use Rattle.si_pictures.specs.declared.seen.Breach.TheVariants.{Nondeterministic, Inconsistent, Noncommutative}
use Rattle.si_pictures.specs.declared.seen.Breach.TheVariants.{Nonpersistent}
use Rattle.si_pictures.specs.declared.seen.Seen.TheVariants.{Proper, Uncoded}

-- ---- the input `a` rises, then the output `z`
coded : CodedGraph
coded = record {
  graph = record {
    signals = record { name = codes "a"; kind = Input } ∷ record { name = codes "z"; kind = Output } ∷ [];
    states = 3;
    edges = arc 0 (rise 0) 1 ∷ arc 1 (rise 1) 2 ∷ [];
    start = 0;
  };
  codes = 0 ∷ 1 ∷ 3 ∷ [];
}

names : List (List ℕ)
names = codes "s0" ∷ codes "s1" ∷ codes "s2" ∷ []

listed : states_text (Proper coded) names ≡ codes "signals a z\ns0 0*0 a+\ns1 10* z+\ns2 11\n"
unfolding states_text code_word coded names
listed = refl

-- ---- a graph without signals: a state is its name alone
bare : CodedGraph
bare = record {
  graph = record { signals = []; states = 1; edges = []; start = 0 };
  codes = 0 ∷ [];
}

named : states_text (Proper bare) names ≡ codes "signals\ns0\n"
unfolding states_text code_word bare names
named = refl

titled : title (codes "m") coded.graph.signals ≡ codes "m\nsignals a / z"
unfolding title coded
titled = refl

-- as if its first and last state were a conflict
drawn : dot_text (picture (codes "m") names (Proper coded) ((0, 2) ∷ []) ((0, 2) ∷ []))
    ≡ codes "digraph {\n  label=\"m\\nsignals a / z\";\n"
    ++ (codes "  0 [label=\"s0\\n0*0\", peripheries=\"2\", color=\"red\"];\n"
    ++ (codes "  1 [label=\"s1\\n10*\"];\n  2 [label=\"s2\\n11\", color=\"red\"];\n"
    ++ (codes "  0 -> 1 [label=\"a+\", style=\"dashed\"];\n  1 -> 2 [label=\"z+\"];\n"
    ++ codes "  0 -> 2 [dir=\"none\", color=\"red\", constraint=\"false\"];\n}\n")))
unfolding dot_text picture title code_word coded names
drawn = rw (decimal_digit 0 (lit< tt), decimal_digit 1 (lit< tt), decimal_digit 2 (lit< tt)) refl

-- ---- the output `z` rises twice
abbrev twice : StateGraph
twice = record {
  signals = record { name = codes "z"; kind = Output } ∷ [];
  states = 3;
  edges = arc 0 (rise 0) 1 ∷ arc 1 (rise 0) 2 ∷ [];
  start = 0;
}

twice_listed : states_text (Uncoded twice (Inconsistent 0)) names ≡ codes "signals z\ns0 - z+\ns1 - z+\ns2 -\n"
unfolding states_text names
twice_listed = refl

twice_drawn : dot_text (picture (codes "m") names (Uncoded twice (Inconsistent 0)) [] [])
    ≡ codes "digraph {\n  label=\"m\\nsignals / z\";\n"
    ++ (codes "  0 [label=\"s0\", peripheries=\"2\"];\n  1 [label=\"s1\"];\n  2 [label=\"s2\"];\n"
    ++ codes "  0 -> 1 [label=\"z+\", color=\"red\"];\n  1 -> 2 [label=\"z+\", color=\"red\"];\n}\n")
unfolding dot_text picture title names
twice_drawn = rw (decimal_digit 0 (lit< tt), decimal_digit 1 (lit< tt), decimal_digit 2 (lit< tt)) refl

-- ---- what shows a breach: `a+` and `z+` from state 0 lead by 1 and 2 to 3 and 4
abbrev apart : StateGraph
apart = record {
  signals = coded.graph.signals;
  states = 5;
  edges = arc 0 (rise 0) 1 ∷ arc 0 (rise 1) 2 ∷ arc 1 (rise 1) 3 ∷ arc 2 (rise 0) 4 ∷ arc 3 (fall 0) 4 ∷ [];
  start = 0;
}

first_order : is_breach_arc apart (Noncommutative 0 (rise 0) (rise 1)) (arc 1 (rise 1) 3) ≡ true
first_order = refl

second_order : is_breach_arc apart (Noncommutative 0 (rise 0) (rise 1)) (arc 2 (rise 0) 4) ≡ true
second_order = refl

behind_both : is_breach_arc apart (Noncommutative 0 (rise 0) (rise 1)) (arc 3 (fall 0) 4) ≡ false
behind_both = refl

another_target : is_breach_arc apart (Nondeterministic 0 (rise 0) 1 2) (arc 0 (rise 0) 3) ≡ false
another_target = refl

another_event : is_breach_arc apart (Nonpersistent 0 (rise 1) (rise 0)) (arc 1 (rise 1) 3) ≡ false
another_event = refl

state_of_loss : is_breach_state (Nonpersistent 0 (rise 1) (rise 0)) 0 ≡ true
state_of_loss = refl

-- ---- strings
all_escaped : flat_map escaped_byte (codes "a\"b\\&\n") ≡ codes "a\\\"b\\\\&amp;\\n"
all_escaped = refl

shown : tokens_of (codes "x=\"a\\\"b\\\\&amp;\\n\";")
    ≡ Id (codes "x") ∷ Mark 61 ∷ Quoted (codes "a\"b\\&\n") ∷ Mark 59 ∷ []
unfolding tokens_of
shown = refl

-- a keyword in capitals is a keyword, and a comment isn't read
keyword : tokens_of (codes "Graph 12") ≡ Keyword (codes "graph") ∷ Id (codes "12") ∷ []
unfolding tokens_of
keyword = refl

comment : tokens_of (codes "/* */") ≡ Unread ∷ []
unfolding tokens_of
comment = refl

-- ---- states of conflicts
among : is_among ((0, 2) ∷ (3, 5) ∷ []) 2 ≡ true
among = refl

not_among : is_among ((0, 2) ∷ (3, 5) ∷ []) 1 ≡ false
not_among = refl
