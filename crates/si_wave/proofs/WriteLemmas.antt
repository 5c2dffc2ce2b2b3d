-- What the writers of a wave have still to add, a step at a time.
use Rattle.std.proofs.Common.{◌≡◌, ℕ, ◌+◌, ◌<◌, List, [], ◌∷◌, ◌++◌, sym, ap, ◌∙◌, length, get_or, drop, map}
use Rattle.std.proofs.Common.{flat_map, append_assoc, arith, codes, decimal}
use Rattle.std.proofs.lemmas.Grind.{flat_map-append}
use Rattle.std.proofs.lemmas.List.{drop_more}
use Rattle.std.proofs.lemmas.Fmt.{decimal_digit}
use Rattle.si_base.specs.declared.graph.Signal.{Signal}
use Rattle.si_base.specs.declared.graph.SigKind.TheVariants.{Input}
use Rattle.si_base.specs.declared.ids.Event.{Event}
use Rattle.si_base.specs.Bits.{bit}
use Rattle.si_base.specs.Bytes.{hash}
use Rattle.si_base.specs.Netlist.{Netlist}
use Rattle.si_base.specs.Words.{line, text_of}
use Rattle.si_wave.specs.Dump.{change_line, moment_lines, wire_line}
use Rattle.si_wave.specs.Wave.{change_of, escape, moments_from, starts_from, wave_text}
use Rattle.si_wave.specs.Wave.{scope_name, wire_code, wires_from}

-- a part that is added comes off what is left
added : (text part rest left old whole new : List ℕ) → left ≡ part ++ rest → text ++ left ≡ old ++ whole
    → new ≡ text ++ part → new ++ rest ≡ old ++ whole
added text part rest left old whole new cut so_far is =
    ap (λ (t : List ℕ). t ++ rest) is ∙ append_assoc text part rest ∙ ap (λ (t : List ℕ). text ++ t) (sym cut)
    ∙ so_far

-- ---- the declarations from the i-th signal on
abbrev pub wires_left : List Signal → ℕ → List ℕ
wires_left signals i = text_of (map wire_line (wires_from i (drop i signals)))

pub wires_more : (signals : List Signal) (i : ℕ) (d : Signal) (old text new : List ℕ) → i < length signals
    → text ++ wires_left signals i ≡ old ++ wires_left signals 0
    → new ≡ text ++ line (wire_line (record { code = wire_code i; name = (get_or signals i d).name }))
    → new ++ wires_left signals (i + 1) ≡ old ++ wires_left signals 0
wires_more signals i d old text new within so_far is =
    let x = get_or signals i d in
    let part = line (wire_line (record { code = wire_code i; name = x.name })) in
    let cut : wires_left signals i ≡ part ++ wires_left signals (i + 1) =
    ap (λ (xs : List Signal). text_of (map wire_line (wires_from i xs))) (drop_more signals i d within) in
    added text part (wires_left signals (i + 1)) (wires_left signals i) old (wires_left signals 0) new cut so_far is

-- ---- the start values from the i-th signal on
abbrev pub starts_left : List Signal → ℕ → ℕ → List ℕ
starts_left signals values i = text_of (map change_line (starts_from i (drop i signals) values))

pub starts_more : (signals : List Signal) (values i : ℕ) (old text new : List ℕ) → i < length signals
    → text ++ starts_left signals values i ≡ old ++ starts_left signals values 0
    → new ≡ text ++ line (change_line (change_of i (bit values i)))
    → new ++ starts_left signals values (i + 1) ≡ old ++ starts_left signals values 0
starts_more signals values i old text new within so_far is =
    let d : Signal = record { name = []; kind = Input } in
    let part = line (change_line (change_of i (bit values i))) in
    let cut : starts_left signals values i ≡ part ++ starts_left signals values (i + 1) =
    ap (λ (xs : List Signal). text_of (map change_line (starts_from i xs values)))
    (drop_more signals i d within) in
    added text part (starts_left signals values (i + 1)) (starts_left signals values i) old
    (starts_left signals values 0) new cut so_far is

-- ---- the line of a declaration
pub wire_parts : (text head code name close end : List ℕ)
    → ((((text ++ head) ++ code) ++ 32 ∷ []) ++ name) ++ (32 ∷ close ++ end)
    ≡ text ++ (head ++ ((code ++ 32 ∷ (name ++ 32 ∷ close)) ++ end))
wire_parts text head code name close end = simp append_assoc

-- ---- the whole text
nine_parts : (head mark model close end wires opened starts closed moments : List ℕ)
    → ((((((((head ++ mark) ++ model) ++ (close ++ end)) ++ wires) ++ opened) ++ starts) ++ closed) ++ moments)
    ≡ ((head ++ ((((mark ++ model) ++ close) ++ end) ++ wires)) ++ (opened ++ starts)) ++ (closed ++ moments)
nine_parts head mark model close end wires opened starts closed moments = simp append_assoc

abbrev opening : List ℕ
opening = codes "$timescale 1 ns $end\n$scope module "

abbrev middle : List ℕ
middle = codes "$upscope $end\n$enddefinitions $end\n#0\n$dumpvars\n"

pub text_by_calls : (n : Netlist) (events : List Event)
    (head marked named scoped declared opened started closed all : List ℕ)
    → head ≡ opening → marked ≡ head ++ escape n.model → named ≡ marked ++ n.model → scoped ≡ named ++ codes " $end\n"
    → declared ≡ scoped ++ text_of (map wire_line (wires_from 0 n.signals)) → opened ≡ declared ++ middle
    → started ≡ opened ++ text_of (map change_line (starts_from 0 n.signals n.start))
    → closed ≡ started ++ codes "$end\n"
    → all ≡ closed ++ text_of (flat_map moment_lines (moments_from 1 events))
    → all ≡ wave_text n events
unfolding wave_text
text_by_calls n events head marked named scoped declared opened started closed all
    is_head is_marked is_named is_scoped is_declared is_opened is_started is_closed is_all =
    let wires = map wire_line (wires_from 0 n.signals) in
    let starts = map change_line (starts_from 0 n.signals n.start) in
    let moments = flat_map moment_lines (moments_from 1 events) in
    let front = (codes "$timescale" ∷ codes "1" ∷ codes "ns" ∷ codes "$end" ∷ [])
    ∷ (codes "$scope" ∷ codes "module" ∷ scope_name n.model ∷ codes "$end" ∷ []) ∷ wires in
    let shown : List ℕ → List (List (List ℕ)) = λ zero. (codes "$upscope" ∷ codes "$end" ∷ [])
    ∷ (codes "$enddefinitions" ∷ codes "$end" ∷ []) ∷ ((hash ∷ zero) ∷ []) ∷ (codes "$dumpvars" ∷ []) ∷ starts in
    let back = (codes "$end" ∷ []) ∷ moments in
    rw (is_all, is_closed, is_started, is_opened, is_declared, is_scoped, is_named, is_marked, is_head)
    (nine_parts opening (escape n.model) n.model (codes " $end") (codes "\n") (text_of wires) middle
    (text_of starts) (codes "$end\n") (text_of moments)
    ∙ ap (λ (zero : List ℕ). (text_of front ++ text_of (shown zero)) ++ text_of back)
    (sym (decimal_digit 0 (omega arith)))
    ∙ ap (λ (t : List ℕ). t ++ text_of back) (sym (flat_map-append line front (shown (decimal 0))))
    ∙ sym (flat_map-append line (front ++ shown (decimal 0)) back))
