-- One more event: it passes, or it is the first that doesn't.
use Rattle.std.proofs.Common.{◌≡◌, ℕ, ◌+◌, ◌<◌, List, [], ◌∷◌, ◌++◌, take, drop, length, get_or, suc, refl, sym, ap}
use Rattle.std.proofs.Common.{subst, subst₂, ◌∙◌, arith, take-append-drop, drop-cons}
use Rattle.std.proofs.lemmas.List.{take_more, length-take-le}
use Rattle.si_base.specs.declared.ids.Event.{Event}
use Rattle.si_base.specs.Codes.{CodedGraph}
use Rattle.si_base.specs.Graph.{StateGraph}
use Rattle.si_base.specs.Netlist.{Netlist}
use Rattle.si_base.specs.System.{State}
use Rattle.si_system.specs.Verdict.{IsVerdict}
use Rattle.si_system.specs.declared.verdict.Verdict.{Verdict}
use Rattle.si_system.specs.declared.verdict.Verdict.TheVariants.{Done}
use Rattle.si_system.specs.Outcome.{Passes, IsFirstDiffering}

passes_more : (g : StateGraph) (n : Netlist) (x : State) (es : List Event) (y : State) (e : Event) (z : State)
    → Passes g n x es y → IsVerdict g n y e Done z → Passes g n x (es ++ e ∷ []) z
passes_more g n x [] y e z is done = (z, subst (λ (s : State). IsVerdict g n s e Done z) (sym is) done, refl)
passes_more g n x (f ∷ es) y e z passes done = (passes.0, passes.1, passes_more g n passes.0 es y e z passes.2 done)

-- a verdict of the same graph and the same netlist
pub same_verdict : (c d : CodedGraph) (n m : Netlist) (y : State) (e : Event) (v : Verdict) (z : State) → d ≡ c → m ≡ n
    → IsVerdict d.graph m y e v z → IsVerdict c.graph n y e v z
same_verdict c d n m y e v z coded netlist =
    subst₂ (λ (k : CodedGraph) (l : Netlist). IsVerdict k.graph l y e v z) coded netlist

pub passes_next : (g : StateGraph) (n : Netlist) (x : State) (es : List Event) (k : ℕ) (y : State) (e : Event)
    (z : State) → k < length es → e ≡ get_or es k e → Passes g n x (take k es) y
    → IsVerdict g n y e Done z → Passes g n x (take (k + 1) es) z
passes_next g n x es k y e z below is passes done =
    let longer : take (k + 1) es ≡ take k es ++ e ∷ [] =
    take_more es k e below ∙ ap (λ (f : Event). take k es ++ f ∷ []) (sym is) in
    subst (λ (fs : List Event). Passes g n x fs z) (sym longer) (passes_more g n x (take k es) y e z passes done)

pub first_differing : (g : StateGraph) (n : Netlist) (x : State) (es : List Event) (k : ℕ) (y : State) (e : Event)
    (v : Verdict) (z : State) → k < length es → e ≡ get_or es k e
    → Passes g n x (take k es) y → IsVerdict g n y e v z → (v ≡ Done → ⊥) → IsFirstDiffering g n x es (k + 1) e v
first_differing g n x es k y e v z below is passes fired differs = record {
  before = take k es;
  after = drop (suc k) es;
  cut = sym (take-append-drop k es) ∙ ap (λ (fs : List Event). take k es ++ fs)
      (drop-cons es k e below ∙ ap (λ (f : Event). f ∷ drop (suc k) es) (sym is));
  count = (let len : length (take k es) ≡ k = length-take-le k es (omega arith) in omega arith);
  reached = y;
  passes = passes;
  next = z;
  fired = fired;
  differs = differs;
}
