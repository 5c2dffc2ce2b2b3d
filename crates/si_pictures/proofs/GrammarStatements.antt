-- Written statements are read as these statements.
use Rattle.std.proofs.Common.{ℕ, List, [], ◌∷◌, ◌++◌, flat_map, refl, ap, ◌∙◌, append_assoc, codes}
use Rattle.std.proofs.Common.{Contains}
use Rattle.si_graph.proofs.ListMembers.{Contains-here, Contains-there}
use Rattle.si_pictures.specs.Tokens.{Token, Id, Keyword, Arrow, Mark, Between, tokens_from, tokens_of}
use Rattle.si_pictures.specs.Grammar.{Attribute, Statement, Setting, Node, Link}
use Rattle.si_pictures.specs.Grammar.{attribute_tokens, later_tokens, list_tokens, statement_tokens, IsReadAs}
use Rattle.si_pictures.specs.Writing.{attribute_text, later_text, list_text, statement_text, dot_text}
use Rattle.si_pictures.proofs.TokenReading.{Reads, NameReads, IsNumber, both, attribute_read, number_read}

-- ---- lists of attributes

abbrev pub AreNamed : List Attribute → Type 0
AreNamed attributes = (a : Attribute) → Contains attributes a → NameReads a.name

others_read : (others : List Attribute) → AreNamed others
    → Reads (flat_map later_text others)
    (flat_map later_tokens others)
others_read [] named rest = refl
others_read (a ∷ others) named rest =
    both (later_text a) (flat_map later_text others)
    (later_tokens a) (flat_map later_tokens others)
    (both (codes ", ") (attribute_text a) (Mark 44 ∷ []) (attribute_tokens a) (λ more. refl)
    (attribute_read a (named a (Contains-here a others))))
    (others_read others (λ x there. named x (Contains-there a others x there))) rest

pub list_read : (attributes : List Attribute) → AreNamed attributes
    → Reads (list_text attributes) (list_tokens attributes)
list_read [] named rest = refl
list_read (a ∷ others) named rest =
    let later = flat_map later_text others in
    let rest_tokens = flat_map later_tokens others in
    both (codes " [") (attribute_text a ++ (later ++ codes "]")) (Mark 91 ∷ [])
    (attribute_tokens a ++ (rest_tokens ++ Mark 93 ∷ [])) (λ more. refl)
    (both (attribute_text a) (later ++ codes "]") (attribute_tokens a) (rest_tokens ++ Mark 93 ∷ [])
    (attribute_read a (named a (Contains-here a others)))
    (both later (codes "]") rest_tokens (Mark 93 ∷ [])
    (others_read others (λ x there. named x (Contains-there a others x there))) (λ more. refl))) rest

-- ---- statements

-- the names of attributes are read as names, ids are numbers, and nodes and edges have attributes
abbrev pub IsSound : Statement → Type 0
IsSound (Setting attribute) = NameReads attribute.name
IsSound (Node id []) = ⊥
IsSound (Node id (a ∷ others)) = IsNumber id × AreNamed (a ∷ others)
IsSound (Link from to []) = ⊥
IsSound (Link from to (a ∷ others)) = IsNumber from × IsNumber to × AreNamed (a ∷ others)

ended_list : (a : Attribute) (others : List Attribute) → AreNamed (a ∷ others)
    → Reads (list_text (a ∷ others) ++ codes ";\n") (list_tokens (a ∷ others) ++ Mark 59 ∷ [])
ended_list a others named =
    both (list_text (a ∷ others)) (codes ";\n") (list_tokens (a ∷ others)) (Mark 59 ∷ [])
    (list_read (a ∷ others) named) (λ more. refl)

abbrev node_end : Attribute → List Attribute → List ℕ
node_end a others = list_text (a ∷ others) ++ codes ";\n"

-- an id, and the attributes behind it
id_and_list : (id : List ℕ) (a : Attribute) (others : List Attribute) → IsNumber id → AreNamed (a ∷ others)
    → Reads (id ++ node_end a others) (Id id ∷ list_tokens (a ∷ others) ++ Mark 59 ∷ [])
id_and_list id a others number named rest =
    ap (λ (t : List ℕ). tokens_from Between t) (append_assoc id (node_end a others) rest)
    ∙ number_read id _ number
    ∙ ap (λ (u : List Token). Id id ∷ u) (ended_list a others named rest)

link_read : (from to : List ℕ) (a : Attribute) (others : List Attribute) → IsNumber from → IsNumber to
    → AreNamed (a ∷ others)
    → Reads (from ++ (codes " -> " ++ (to ++ node_end a others)))
    (Id from ∷ Arrow ∷ Id to ∷ list_tokens (a ∷ others) ++ Mark 59 ∷ [])
link_read from to a others number other named rest =
    ap (λ (t : List ℕ). tokens_from Between t) (append_assoc from (codes " -> " ++ (to ++ node_end a others)) rest)
    ∙ number_read from _ number
    ∙ ap (λ (u : List Token). Id from ∷ Arrow ∷ u) (id_and_list to a others other named rest)

statement_read : (x : Statement) → IsSound x → Reads (statement_text x) (statement_tokens x)
statement_read (Setting attribute) named =
    both (attribute_text attribute) (codes ";\n") (attribute_tokens attribute) (Mark 59 ∷ [])
    (attribute_read attribute named) (λ more. refl)
statement_read (Node id []) none = absurd none
statement_read (Node id (a ∷ others)) sound = id_and_list id a others sound.0 sound.1
statement_read (Link from to []) none = absurd none
statement_read (Link from to (a ∷ others)) sound =
    link_read from to a others sound.0 sound.1 sound.2

statements_read : (xs : List Statement) → ((x : Statement) → Contains xs x → IsSound x)
    → Reads (flat_map statement_text xs) (flat_map statement_tokens xs)
statements_read [] sound rest = refl
statements_read (x ∷ xs) sound rest =
    both (statement_text x) (flat_map statement_text xs) (statement_tokens x) (flat_map statement_tokens xs)
    (statement_read x (sound x (Contains-here x xs)))
    (statements_read xs (λ y there. sound y (Contains-there x xs y there))) rest

pub graph_read : (xs : List Statement) → ((x : Statement) → Contains xs x → IsSound x) → IsReadAs (dot_text xs) xs
unfolding tokens_of dot_text
graph_read xs sound =
    ap (λ (u : List Token). Keyword (codes "digraph") ∷ Mark 123 ∷ u) (statements_read xs sound (codes "}\n"))
