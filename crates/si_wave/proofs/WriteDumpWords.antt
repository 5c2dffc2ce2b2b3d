-- The words of a wave are those of its dump.
use Rattle.std.proofs.Common.{◌≡◌, ℕ, suc, ◌+◌, ◌<◌, ◌≤◌, ◌^◌, ◌==◌, Bool, true, false, List, [], ◌∷◌, ◌++◌}
use Rattle.std.proofs.Common.{All, IsTrue, length, map, filter, flat_map, nat_lt, codes, decimal, refl, sym, ap, ap₂}
use Rattle.std.proofs.Common.{◌∙◌, ◌||◌, arith, inl, inr}
use Rattle.std.proofs.lemmas.Bool.{and_from, and_parts, cases_Bool, le-leb, lt-ltb, true≢false}
use Rattle.std.proofs.lemmas.Fmt.{decimal_is_IsNumeral}
use Rattle.std.proofs.lemmas.List.Elements.{All-from_recursion, filter-append}
use Rattle.std.proofs.lemmas.Str.Parse.{digit_from_value}
use Rattle.std.specs.List.{AllByRecursion, join_with_byte, list_all, slice_split}
use Rattle.std.specs.Str.Parse.{AllDigits}
use Rattle.si_base.specs.declared.graph.Signal.{Signal}
use Rattle.si_base.specs.declared.ids.Event.{Event}
use Rattle.si_base.specs.Bits.{bit}
use Rattle.si_base.specs.Netlist.{Netlist}
use Rattle.si_base.specs.WellFormed.{IsNetlist}
use Rattle.si_base.specs.Words.{is_between, is_letter, is_name_byte, is_signal_name, text_of}
use Rattle.si_base.proofs.WordLemmas.{AreClean, IsClean, clean_word, no_end_join, words_without}
use Rattle.si_base.proofs.LinesUnsplit.{AllWithout, split-join, split-text}
use Rattle.si_wave.specs.Dump.{change_line, change_word, dump_lines, moment_lines, wire_line}
use Rattle.si_wave.specs.Reading.{Spells, words_of}
use Rattle.si_wave.specs.Wave.{change_of, moments_from, scope_name, starts_from, wave_of, wave_text}
use Rattle.si_wave.specs.Wave.{wire_code, wires_from}
use Rattle.si_wave.proofs.CodesOfWires.{code_some, codes_visible}
use Rattle.si_wave.proofs.WriteParts.{back, front, middle}

-- ---- words with a byte, and lines with a word

abbrev some : List ℕ → Bool
some w = nat_lt 0 (length w)

abbrev IsGoodWord : List ℕ → Type 0
IsGoodWord w = IsClean w × (some w ≡ true)

abbrev AreGoodWords : List (List ℕ) → Type 0
AreGoodWords ws = AllByRecursion IsGoodWord ws

abbrev IsGoodLine : List (List ℕ) → Type 0
IsGoodLine [] = ⊥
IsGoodLine (w ∷ ws) = AreGoodWords (w ∷ ws)

abbrev AreGoodLines : List (List (List ℕ)) → Type 0
AreGoodLines lines = AllByRecursion IsGoodLine lines

some_byte : (b : ℕ) (bs : List ℕ) → some (b ∷ bs) ≡ true
some_byte b bs = lt-ltb 0 (length (b ∷ bs)) (omega arith)

clean_words : (ws : List (List ℕ)) → AreGoodWords ws → AreClean ws
clean_words [] good = tt
clean_words (w ∷ ws) good = (good.0.0, clean_words ws good.1)

all_kept : (ws : List (List ℕ)) → AreGoodWords ws → filter some ws ≡ ws
all_kept [] good = refl
all_kept (w ∷ ws) good = rw good.0.1 (ap (λ (vs : List (List ℕ)). w ∷ vs) (all_kept ws good.1))

line_words : (l : List (List ℕ)) → IsGoodLine l → AreGoodWords l
line_words [] good = absurd good
line_words (w ∷ ws) good = good

-- ---- cutting a text undoes joining its lines
abbrev cut : List ℕ → List (List ℕ)
cut line = slice_split (λ b. b == 32) line

without_ends : (lines : List (List (List ℕ))) → AreGoodLines lines → AllWithout 10 (map (join_with_byte 32) lines)
without_ends [] good = tt
without_ends (l ∷ ls) good =
    (All-from_recursion _ _ (no_end_join l (clean_words l (line_words l good.0))), without_ends ls good.1)

line_back : (l : List (List ℕ)) → IsGoodLine l → cut (join_with_byte 32 l) ≡ l
line_back [] good = absurd good
line_back (w ∷ ws) good = split-join 32 w ws (words_without (w ∷ ws) (clean_words (w ∷ ws) good))

lines_back : (lines : List (List (List ℕ))) → AreGoodLines lines
    → filter some (flat_map cut (map (join_with_byte 32) lines ++ [] ∷ [])) ≡ flat_map (λ words. words) lines
lines_back [] good = refl
lines_back (l ∷ ls) good =
    let rest = flat_map cut (map (join_with_byte 32) ls ++ [] ∷ []) in
    ap (λ (ws : List (List ℕ)). filter some (ws ++ rest)) (line_back l good.0)
    ∙ filter-append some l rest
    ∙ ap₂ (λ (ws vs : List (List ℕ)). ws ++ vs) (all_kept l (line_words l good.0)) (lines_back ls good.1)

words_back : (lines : List (List (List ℕ))) → AreGoodLines lines
    → words_of (text_of lines) ≡ flat_map (λ words. words) lines
words_back lines good =
    ap (λ (parts : List (List ℕ)). filter some (flat_map cut parts)) (split-text lines (without_ends lines good))
    ∙ lines_back lines good

-- ---- the words of a wave
visible : (w : List ℕ) → list_all (is_between 33 126) w ≡ true → some w ≡ true → IsGoodWord w
visible w bytes any = (clean_word (is_between 33 126) w refl refl bytes, any)

end_word : IsGoodWord (codes "$end")
end_word = visible (codes "$end") refl refl

code_word : (k : ℕ) → k < 128 → IsGoodWord (wire_code k)
code_word k few = visible (wire_code k) (codes_visible k few) (code_some k)

name_word : (name : List ℕ) → is_signal_name name ≡ true → IsGoodWord name
name_word [] is = absurd (true≢false (sym is))
name_word (b ∷ bs) is =
    let each = and_parts (is_letter b) (list_all is_name_byte bs) is in
    (clean_word is_name_byte (b ∷ bs) refl refl (rw (each.0, each.1) refl), some_byte b bs)

value_word : (k : ℕ) (value : Bool) → k < 128 → IsGoodWord (change_word (change_of k value))
value_word k true few =
    visible (change_word (change_of k true)) (codes_visible k few) (some_byte 49 (wire_code k))
value_word k false few =
    visible (change_word (change_of k false)) (codes_visible k few) (some_byte 48 (wire_code k))

digits_pass : (ds : List ℕ) → AllDigits 10 ds → list_all (is_between 33 126) ds ≡ true
digits_pass [] digits = refl
digits_pass (d ∷ ds) digits =
    let range = digit_from_value d digits.0 in
    and_from _ _ (and_from _ _ (le-leb 33 d (omega (arith, range.0))) (le-leb d 126 (omega (arith, range.1))))
    (digits_pass ds digits.1)

time_word : (time : ℕ) → time < 2 ^ 64 → IsGoodWord (35 ∷ decimal time)
time_word time small =
    visible (35 ∷ decimal time) (digits_pass (decimal time) (decimal_is_IsNumeral time small).0.1)
    (some_byte 35 (decimal time))

scope_word : (model : List ℕ) → 0 < length model → list_all (is_between 33 126) model ≡ true
    → IsGoodWord (scope_name model)
scope_word [] any bytes = absurd (omega (arith, any))
scope_word (b ∷ bs) any bytes = elim (cases_Bool ((b == 36) || (b == 92))) [
  | inl marked ↦ rw marked (visible (92 ∷ b ∷ bs) bytes (some_byte 92 (b ∷ bs)))
  | inr plain ↦ rw plain (visible (b ∷ bs) bytes (some_byte b bs))
]

-- ---- its lines
good_append : (ks ls : List (List (List ℕ))) → AreGoodLines ks → AreGoodLines ls → AreGoodLines (ks ++ ls)
good_append [] ls one other = other
good_append (k ∷ ks) ls one other = (one.0, good_append ks ls one.1 other)

good_wires : (signals : List Signal) (k : ℕ) → k + length signals ≤ 128
    → All (λ (x : Signal). IsTrue (is_signal_name x.name)) signals
    → AreGoodLines (map wire_line (wires_from k signals))
good_wires [] k few names = tt
good_wires (x ∷ xs) k few names = (
  (
    visible (codes "$var") refl refl,
    (
      visible (codes "wire") refl refl,
      (
        visible (codes "1") refl refl,
        (code_word k (omega arith), (name_word x.name (names 0 x (omega arith)), (end_word, tt))),
      ),
    ),
  ),
  good_wires xs (k + 1) (omega arith) (λ i d within. names (suc i) d (omega arith)),
)

good_starts : (signals : List Signal) (k values : ℕ) → k + length signals ≤ 128
    → AreGoodLines (map change_line (starts_from k signals values))
good_starts [] k values few = tt
good_starts (x ∷ xs) k values few =
    ((value_word k (bit values k) (omega arith), tt), good_starts xs (k + 1) values (omega arith))

good_moments : (events : List Event) (time : ℕ) → time + length events < 2 ^ 64
    → All (λ (e : Event). e.sig < 128) events → AreGoodLines (flat_map moment_lines (moments_from time events))
good_moments [] time short signals = ((time_word time (omega arith), tt), tt)
good_moments (e ∷ es) time short signals = (
  (time_word time (omega arith), tt),
  (
    (value_word e.sig e.up (signals 0 e (omega arith)), tt),
    good_moments es (time + 1) (omega arith) (λ i d within. signals (suc i) d (omega arith)),
  ),
)

pub wave_spelled : (n : Netlist) (events : List Event) → IsNetlist n
    → All (λ (e : Event). e.sig < length n.signals) events → length events + 1 < 2 ^ 64
    → Spells (wave_text n events) (wave_of n events)
unfolding wave_text
wave_spelled n events is signals short =
    let few = is.few in
    let d = wave_of n events in
    let opened : AreGoodLines (front d) = (
      (
        visible (codes "$timescale") refl refl,
        (
          visible (codes "1") refl refl,
          (
            visible (codes "ns") refl refl,
            (end_word, tt),
          ),
        ),
      ),
      (
        (
          visible (codes "$scope") refl refl,
          (
            visible (codes "module") refl refl,
            (scope_word n.model is.model.some is.model.bytes, (end_word, tt)),
          ),
        ),
        good_wires n.signals 0 (omega arith) is.names,
      ),
    ) in
    let started : AreGoodLines (middle d) = (
      (visible (codes "$upscope") refl refl, (end_word, tt)),
      (
        (visible (codes "$enddefinitions") refl refl, (end_word, tt)),
        (
          (time_word 0 (omega arith), tt),
          (
            (visible (codes "$dumpvars") refl refl, tt),
            good_starts n.signals 0 n.start (omega arith),
          ),
        ),
      ),
    ) in
    let ended : AreGoodLines (back d) = (
      (end_word, tt),
      good_moments events 1 (omega arith) (λ i e within. omega (arith, signals i e within, few)),
    ) in
    words_back (dump_lines d) (good_append (front d ++ middle d) (back d)
    (good_append (front d) (middle d) opened started) ended)
