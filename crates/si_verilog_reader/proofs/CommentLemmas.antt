-- A text without a `/` among its symbols has no comments, and a module has no `/`.
use Rattle.std.proofs.Common.{◌≡◌, ℕ, ◌==◌, not, Bool, true, false, List, [], ◌∷◌, ◌++◌, refl, sym, ap, ◌∙◌, subst}
use Rattle.std.proofs.Common.{if◌then◌else◌, flat_map, inl, inr, eqb-true, codes}
use Rattle.std.specs.List.{list_all, join_by}
use Rattle.std.proofs.lemmas.Bool.{true≢false, and_from, and_parts, cases_Bool, false_from_ne_true}
use Rattle.std.proofs.lemmas.List.Folds.{list_all-append}
use Rattle.si_base.specs.Bytes.{ampersand, backslash, comma, semicolon, slash, closing_parenthesis}
use Rattle.si_verilog.specs.Symbols as symbols
use Rattle.si_verilog.specs.Symbols.{Symbol, Name, Word, Mark, Place, Between, Bare, symbols_of, symbols_from}
use Rattle.si_verilog.specs.Symbols.{symbols_at, next_place, first_place, mark_at, is_bare_byte, is_blank, bare_symbol}
use Rattle.si_verilog.specs.Grammar.{Level, Tree, Spells, zero, one, named, grouped, as_factor, complemented}
use Rattle.si_verilog.specs.Grammar.{as_term, with_factor, as_expression, with_term, Port, InputPort, OutputPort}
use Rattle.si_verilog.specs.Grammar.{Assign, SpellAssigns, no_assign, assign, Module, SpellModule, bar}
use Rattle.si_verilog.specs.Grammar.{port_symbols, wire_symbols, module_symbols}
use Rattle.si_verilog_reader.specs.Comments.{Region, Code, Escaped, next_region, blanked}
use Rattle.si_verilog_reader.specs.Comments.{without_comments, without_comments_from}
use Rattle.si_verilog_reader.specs.Parts.{same_symbol}

-- a symbol other than `/`
abbrev pub is_no_slash : Symbol → Bool
is_no_slash s = not (same_symbol (Mark slash) s)

abbrev pub NoSlash : List Symbol → Type 0
NoSlash xs = list_all is_no_slash xs ≡ true

pub both : (xs ys : List Symbol) → NoSlash xs → NoSlash ys → NoSlash (xs ++ ys)
both xs ys former latter = list_all-append is_no_slash xs ys ∙ and_from _ _ former latter

of_both : (xs ys : List Symbol) → NoSlash (xs ++ ys) → NoSlash xs × NoSlash ys
of_both xs ys none = and_parts _ _ (sym (list_all-append is_no_slash xs ys) ∙ none)

-- ---- texts without `/`

-- where a byte stands at which reading stands there, where no comment began
abbrev region_at : Place → Region
region_at Between = Code
region_at (Bare word) = Code
region_at (symbols.Escaped word) = Escaped

-- a byte between words that is no mark `/`
other_mark : (b : ℕ) → NoSlash (mark_at b) → (b == slash) ≡ false
other_mark b none = false_from_ne_true (b == slash) (λ is.
    let of_slash : NoSlash (mark_at slash) = subst (λ (c : ℕ). NoSlash (mark_at c)) (eqb-true b slash is) none in
    true≢false (sym of_slash))

-- one in or behind a bare word
other_behind : (word : List ℕ) (b : ℕ) → NoSlash (symbols_at (Bare word) b) → (b == slash) ≡ false
other_behind word b none = false_from_ne_true (b == slash) (λ is.
    let of_slash : NoSlash (bare_symbol word ∷ Mark slash ∷ []) =
    subst (λ (c : ℕ). NoSlash (symbols_at (Bare word) c)) (eqb-true b slash is) none in
    true≢false (sym (and_parts (is_no_slash (bare_symbol word)) false of_slash).1))

-- behind such a byte no comment begins
goes_on : (b : ℕ) (bs : List ℕ) → (b == slash) ≡ false → next_region Code b bs ≡ region_at (first_place b)
goes_on b bs other = elim (cases_Bool (b == backslash)) [
  | inl begins ↦ subst (λ (c : ℕ). next_region Code c bs ≡ region_at (first_place c))
      (sym (eqb-true b backslash begins)) refl
  | inr goes ↦ rw (goes, other) (in_code (is_bare_byte b))
]
  where
    in_code : (bare : Bool) → Code ≡ region_at (if bare then Bare (b ∷ []) else Between)
    in_code true = refl
    in_code false = refl

-- it is the same in a bare word as between words
same_region : (word : List ℕ) (b : ℕ) → region_at (first_place b) ≡ region_at (next_place (Bare word) b)
same_region word b = as_between (is_bare_byte b) (if b == backslash then symbols.Escaped [] else Between)
  where
    as_between : (bare : Bool) (place : Place) → region_at (if bare then Bare (b ∷ []) else place)
        ≡ region_at (if bare then Bare (word ++ b ∷ []) else if bare then Bare (b ∷ []) else place)
    as_between true place = refl
    as_between false place = refl

next_there : (place : Place) (b : ℕ) (bs : List ℕ) → NoSlash (symbols_at place b)
    → next_region (region_at place) b bs ≡ region_at (next_place place b)
next_there Between b bs none = goes_on b bs (other_mark b none)
next_there (Bare word) b bs none = goes_on b bs (other_behind word b none) ∙ same_region word b
next_there (symbols.Escaped word) b bs none = in_name (is_blank b)
  where
    in_name : (blank : Bool) → (if blank then Code else Escaped)
        ≡ region_at (if blank then Between else symbols.Escaped (word ++ b ∷ []))
    in_name true = refl
    in_name false = refl

-- a byte with which no comment begins stays
kept_code : (place : Place) (b : ℕ) → blanked Code (region_at place) b ≡ b
kept_code Between b = refl
kept_code (Bare word) b = refl
kept_code (symbols.Escaped word) b = refl

kept : (place : Place) (b : ℕ) → blanked (region_at place) (region_at (next_place place b)) b ≡ b
kept Between b = kept_code (first_place b) b
kept (Bare word) b = kept_code (next_place (Bare word) b) b
kept (symbols.Escaped word) b = refl

nothing_from : (place : Place) (text : List ℕ) → NoSlash (symbols_from place text)
    → without_comments_from (region_at place) text ≡ text
nothing_from place [] none = refl
nothing_from place (b ∷ bs) none =
    let parts = of_both (symbols_at place b) (symbols_from (next_place place b) bs) none in
    let stays = kept place b in
    let later = nothing_from (next_place place b) bs parts.1 in
    ap (λ (r : Region). blanked (region_at place) r b ∷ without_comments_from r bs) (next_there place b bs parts.0)
    ∙ λ i. stays i ∷ later i

-- a text without a mark `/` is the same without comments
pub nothing_to_blank : (text : List ℕ) → NoSlash (symbols_of text) → without_comments text ≡ text
unfolding without_comments symbols_of
nothing_to_blank text none = nothing_from Between text none

-- ---- modules

-- lists one behind another, and lists with something between them
pub all_behind : {X : Type 0} (f : X → List Symbol) → ((x : X) → NoSlash (f x)) → (xs : List X)
    → NoSlash (flat_map f xs)
all_behind f each [] = refl
all_behind f each (x ∷ xs) = both (f x) (flat_map f xs) (each x) (all_behind f each xs)

pub all_joined : {X : Type 0} (f : X → List Symbol) (between : List Symbol) → NoSlash between
    → ((x : X) → NoSlash (f x)) → (xs : List X) → NoSlash (join_by f between xs)
all_joined f between none each [] = refl
all_joined f between none each (x ∷ xs) = both (f x) _ (each x)
    (all_behind (λ y. between ++ f y) (λ y. both between (f y) none (each y)) xs)

in_expression : {level : Level} {xs : List Symbol} {tree : Tree} → Spells level xs tree → NoSlash xs
in_expression zero = refl
in_expression one = refl
in_expression (named name) = refl
in_expression (grouped {inner = xs} e) = both xs (Mark closing_parenthesis ∷ []) (in_expression e) refl
in_expression (as_factor e) = in_expression e
in_expression (complemented e) = in_expression e
in_expression (as_term e) = in_expression e
in_expression (with_factor {xs = xs} {ys = ys} e f) =
    both xs (Mark ampersand ∷ ys) (in_expression e) (in_expression f)
in_expression (as_expression e) = in_expression e
in_expression (with_term {xs = xs} {ys = ys} e f) = both xs (Mark bar ∷ ys) (in_expression e) (in_expression f)

pub in_assigns : {xs : List Symbol} {assigns : List Assign} → SpellAssigns xs assigns → NoSlash xs
in_assigns no_assign = refl
in_assigns (assign name {xs = xs} {rest = rest} e more) =
    both xs (Mark semicolon ∷ rest) (in_expression e) (in_assigns more)

in_port : (p : Port) → NoSlash (port_symbols p)
in_port (InputPort name) = refl
in_port (OutputPort name) = refl

in_wire : (name : List ℕ) → NoSlash (wire_symbols name)
in_wire name = refl

pub in_module : (m : Module) (assigns : List Symbol) → NoSlash assigns → NoSlash (module_symbols m assigns)
in_module m assigns none =
    let ports = all_joined port_symbols (Mark comma ∷ []) refl in_port m.ports in
    let wires = all_behind wire_symbols in_wire m.wires in
    let ends = both assigns (Word (codes "endmodule") ∷ []) none refl in
    both (join_by port_symbols (Mark comma ∷ []) m.ports) _ ports (both (flat_map wire_symbols m.wires) _ wires ends)

-- no mark of a module is `/`
pub module_without_slash : (xs : List Symbol) (m : Module) → SpellModule xs m → NoSlash xs
module_without_slash xs m spells =
    subst NoSlash (sym spells.whole) (in_module m spells.assigns (in_assigns spells.spell))
