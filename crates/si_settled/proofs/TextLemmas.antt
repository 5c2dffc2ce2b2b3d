-- The text of what to force: what is still to add, and that there is one.
use Rattle.std.proofs.Common.{◌≡◌, ℕ, suc, ◌+◌, ◌<◌, Bool, List, [], ◌∷◌, ◌++◌, map, drop, length, filter, get_or, refl}
use Rattle.std.proofs.Common.{sym, ap, ap₂, ◌∙◌, add-one, append_assoc, codes, decimal, if◌then◌else◌}
use Rattle.std.proofs.Math.Seq.{drop-cons}
use Rattle.si_base.specs.declared.graph.Signal.{Signal}
use Rattle.si_base.specs.Bits.{bit}
use Rattle.si_base.specs.Bytes.{digit_zero, digit_one}
use Rattle.si_base.specs.Graph.{name_of}
use Rattle.si_base.specs.Netlist.{Netlist}
use Rattle.si_base.specs.Words.{line, text_of}
use Rattle.si_words.specs.Loops.Writing.{spaced}
use Rattle.si_loops.specs.Arcs.{gated}
use Rattle.si_settled.specs.ResetText.{force_line, reset_text, IsResetText}
use Rattle.si_settled.specs.Settling.{AreSettling, inputs_of, is_among}
use Rattle.si_settled.proofs.DecidingForced.{comes_to, drops_exist}
use Rattle.si_settled.proofs.Forcing.{drops_are_one}
use Rattle.si_settled.proofs.Turns.{one_end}

-- the names of the signals from the i-th on
abbrev pub names_from : List Signal → List ℕ → ℕ → List ℕ
names_from signals these i = spaced (map (name_of signals) (drop i these))

pub name_more : (signals : List Signal) (these : List ℕ) (i z : ℕ) (name old text new : List ℕ) → i < length these
    → z ≡ get_or these i z → text ++ names_from signals these i ≡ old → name ≡ name_of signals z
    → new ≡ text ++ 32 ∷ name
    → new ++ names_from signals these (i + 1) ≡ old
name_more signals these i z name old text new within at so_far named is =
    let left : names_from signals these i ≡ (32 ∷ name) ++ names_from signals these (i + 1) =
    ap (λ (l : List ℕ). spaced (map (name_of signals) l)) (drop-cons these i z within)
    ∙ ap (λ (n : List ℕ). (32 ∷ n) ++ names_from signals these (suc i)) (ap (name_of signals) (sym at) ∙ sym named)
    ∙ rw add-one refl in
    ap (λ (t : List ℕ). t ++ names_from signals these (i + 1)) is
    ∙ append_assoc text (32 ∷ name) (names_from signals these (i + 1))
    ∙ ap (λ (t : List ℕ). text ++ t) (sym left) ∙ so_far

-- the lines of the outputs from the i-th on
abbrev pub forces_from : List Signal → ℕ → List ℕ → ℕ → List ℕ
forces_from signals start forced i = text_of (map (force_line signals start) (drop i forced))

pub force_more : (signals : List Signal) (start : ℕ) (forced : List ℕ) (i z : ℕ) (value : Bool)
    (name word old text new : List ℕ) → i < length forced → z ≡ get_or forced i z
    → text ++ forces_from signals start forced i ≡ old → name ≡ name_of signals z → value ≡ bit start z
    → word ≡ (if value then digit_one else digit_zero) ∷ []
    → new ≡ text ++ line (codes "force" ∷ name ∷ word ∷ [])
    → new ++ forces_from signals start forced (i + 1) ≡ old
force_more signals start forced i z value name word old text new within at so_far named valued digit is =
    let line_of : ℕ → List ℕ = λ y. line (force_line signals start y) in
    let written : List ℕ = line (codes "force" ∷ name ∷ word ∷ []) in
    let word_is : word ≡ (if bit start z then digit_one else digit_zero) ∷ [] =
    digit ∙ ap (λ (b : Bool). (if b then digit_one else digit_zero) ∷ []) valued in
    let here : written ≡ line_of (get_or forced i z) =
    ap₂ (λ (n w : List ℕ). line (codes "force" ∷ n ∷ w ∷ [])) named word_is ∙ ap line_of at in
    let left : forces_from signals start forced i ≡ written ++ forces_from signals start forced (i + 1) =
    ap (λ (l : List ℕ). text_of (map (force_line signals start) l)) (drop-cons forced i z within)
    ∙ ap (λ (t : List ℕ). t ++ forces_from signals start forced (suc i)) (sym here) ∙ rw add-one refl in
    ap (λ (t : List ℕ). t ++ forces_from signals start forced (i + 1)) is
    ∙ append_assoc text written (forces_from signals start forced (i + 1))
    ∙ ap (λ (t : List ℕ). text ++ t) (sym left) ∙ so_far

module _ (n : Netlist) (settling forced : List ℕ) where
  -- the text over signals and start values that are those of the netlist
  abbrev first_line : List ℕ
  first_line = line (codes "gates" ∷ decimal (length n.gates) ∷ [])

  abbrev second_line : List Signal → List ℕ
  second_line signals = line (codes "settle" ∷ map (name_of signals) settling)

  abbrev other_lines : List Signal → ℕ → List ℕ
  other_lines signals start = text_of (map (force_line signals start) forced)

  abbrev lines : List Signal → ℕ → List ℕ
  lines signals start = first_line ++ (second_line signals ++ other_lines signals start)

  text_is : lines n.signals n.start ≡ reset_text n settling forced
  unfolding reset_text
  text_is = refl

  pub reset_by_calls : (count : ℕ) (signals : List Signal) (start : ℕ) (empty first second all : List ℕ)
      → count ≡ length n.gates → signals ≡ n.signals → start ≡ n.start → empty ≡ codes ""
      → first ≡ empty ++ line (codes "gates" ∷ decimal count ∷ []) → second ≡ first ++ second_line signals
      → all ≡ second ++ other_lines signals start → all ≡ reset_text n settling forced
  reset_by_calls count signals start empty first second all counted signals_are start_is e1 e2 e3 e4 =
      let first_is : first ≡ first_line =
      e2 ∙ ap (λ (t : List ℕ). t ++ line (codes "gates" ∷ decimal count ∷ [])) e1
      ∙ ap (λ (k : ℕ). line (codes "gates" ∷ decimal k ∷ [])) counted in
      e4 ∙ ap (λ (t : List ℕ). t ++ other_lines signals start)
      (e3 ∙ ap (λ (t : List ℕ). t ++ second_line signals) first_is)
      ∙ append_assoc first_line (second_line signals) (other_lines signals start)
      ∙ ap (λ (x : List Signal). lines x start) signals_are ∙ ap (lines n.signals) start_is ∙ text_is

-- ---- one text
one_settling : (n : Netlist) (xs ys : List ℕ) → AreSettling n xs → AreSettling n ys → xs ≡ ys
one_settling n xs ys a b =
    a.are ∙ ap (λ (p : ℕ → Bool). filter p (gated n.signals)) (one_end n (inputs_of n.signals) a.end b.end a.comes b.comes)
    ∙ sym b.are

pub one_text : (n : Netlist) (text other : List ℕ) → IsResetText n text → IsResetText n other → text ≡ other
one_text n text other a b =
    a.text_is ∙ ap₂ (reset_text n) (one_settling n a.settling b.settling a.settle b.settle)
    (drops_are_one n (inputs_of n.signals) (gated n.signals) a.forced b.forced a.dropped b.dropped) ∙ sym b.text_is

pub some_text : (n : Netlist) → (text : List ℕ) × IsResetText n text
some_text n =
    let to = comes_to n (inputs_of n.signals) in
    let settling = filter (is_among to.0) (gated n.signals) in
    let dropped = drops_exist n (inputs_of n.signals) (gated n.signals) in (
      reset_text n settling dropped.0,
      record {
        settling = settling;
        settle = record { end = to.0; comes = to.1; are = refl };
        forced = dropped.0;
        dropped = dropped.1;
        text_is = refl;
      },
    )
