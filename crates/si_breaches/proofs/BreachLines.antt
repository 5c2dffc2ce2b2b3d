-- The lines of breaches, each by its calls, and one after another.
use Rattle.std.proofs.Common.{◌≡◌, ℕ, ◌+◌, ◌<◌, ◌≤◌, ◌∙◌, List, [], ◌∷◌, ◌++◌, map, take, length, get_or, refl}
use Rattle.std.proofs.Common.{All, sym, ap, ap₂, subst, append_assoc, codes}
use Rattle.std.proofs.lemmas.Grind.{flat_map-append}
use Rattle.std.proofs.lemmas.List.{append-nil, map-append, take_more, take_all}
use Rattle.std.proofs.lemmas.List.Elements.{All-from_recursion, All-push}
use Rattle.si_base.specs.declared.ids.Event.{Event}
use Rattle.si_base.specs.declared.graph.Edge.{Edge}
use Rattle.si_base.specs.declared.graph.Signal.{Signal}
use Rattle.si_base.specs.Codes.{IsConnected}
use Rattle.si_base.specs.Graph.{StateGraph, IsGraph, name_of}
use Rattle.si_base.specs.Proper.{Split, split_place, Fork, fork_place, Loss, Loses, loss_place}
use Rattle.si_base.specs.Words.{line, text_of}
use Rattle.si_base.proofs.GraphSteps.{step_from_enables}
use Rattle.si_base.proofs.StepCodes.{step_within}
use Rattle.si_explain.specs.ExplainText.{events_words}
use Rattle.si_explain.proofs.EventLemmas.{walk_signals}
use Rattle.si_told.specs.All.{AreAll}
use Rattle.si_breaches.specs.Breaches.{AreFirstWays, IsSplit, IsClash, IsClashing, clashing_place, by_arc, IsFirstFork}
use Rattle.si_breaches.specs.Breaches.{Breaches, AreBreaches}
use Rattle.si_breaches.specs.BreachText.{breach_line, value_line, split_line, fork_line, lost_line, clash_lines}
use Rattle.si_breaches.specs.BreachText.{all_clash_lines, breach_text, breach_count, IsBreachText}
use Rattle.si_told.specs.ToldLines.{kind_lines, dropped_line, told_line}
use Rattle.si_told.specs.Loops.Lines.{AddsLines, LossIsWithin}
use Rattle.si_breaches.specs.Loops.Lines.{SplitIsWithin, ForkIsWithin, ClashIsWithin}
use Rattle.si_breaches.specs.declared.clashes.Clash.{Clash}
use Rattle.si_breaches.specs.declared.clashes.Clash.TheVariants.{Torn, Apart}
use Rattle.si_breaches.specs.declared.clashes.Clashing.{Clashing}
use Rattle.si_breaches.proofs.BreachTexts.{some_first_ways}
use Rattle.si_told.proofs.Alls.{all_hold}
use Rattle.si_sg.specs.CanonicalText.{state_at}
use Rattle.si_walks.specs.declared.arcs.Arcs.TheVariants.{All as AllArcs}
use Rattle.si_walks.specs.Paths.{IsWayTo, events_of}
use Rattle.si_walks.proofs.FirstPaths.{one_way_to, walk_of_path}
use Rattle.si_words.specs.Loops.Writing.{spaced}
use Rattle.si_words.proofs.WritingLemmas.{whole_line}

-- ---- what is printed is within the graph
pub one_small : (n : ℕ) (e : Event) → e.sig < n → All (λ (x : Event). x.sig < n) (e ∷ [])
one_small n e one = All-from_recursion (λ (x : Event). x.sig < n) (e ∷ []) (one, tt)

pub two_states : (n t u : ℕ) → t < n → u < n → All (λ (x : ℕ). x < n) (t ∷ u ∷ [])
two_states n t u one other = All-from_recursion (λ (x : ℕ). x < n) (t ∷ u ∷ []) (one, (other, tt))

module _ (g : StateGraph) (is : IsGraph g) where
  pub splits_within : (xs : List Split) → AreAll split_place (IsSplit g) xs → All (SplitIsWithin g) xs
  splits_within xs are = all_hold split_place (IsSplit g) (SplitIsWithin g) xs are (λ b split. (
      let one = step_within g b.s b.e b.t is split.splits.one in
      let other = step_within g b.s b.e b.u is split.splits.other in
      (one.0, one.1, one.2, other.2)))

  pub forks_within : (xs : List Fork) → AreAll fork_place (IsFirstFork g) xs → All (ForkIsWithin g) xs
  forks_within xs are = all_hold fork_place (IsFirstFork g) (ForkIsWithin g) xs are (λ b fork. (
      let f = fork.forks in
      let one = step_within g b.s b.a f.one.0 is f.one.1 in
      let end = step_within g f.one.0 b.c b.w is f.one.2 in
      let other = step_within g f.other.0 b.a b.w2 is f.other.2 in
      (one.0, one.1, end.1, end.2, other.2)))

  pub losses_within : (xs : List Loss) → AreAll loss_place (Loses g) xs → All (LossIsWithin g) xs
  losses_within xs are = all_hold loss_place (Loses g) (LossIsWithin g) xs are (λ b loss. (
      let to = step_from_enables g b.s b.lost loss.enabled in
      let one = step_within g b.s b.lost to.0 is to.1 in
      let other = step_within g b.s b.by loss.after.0 is loss.after.1 in
      (one.0, one.1, other.1)))

  clash_within : (walk : ℕ → List Event) (a : ℕ) (k : Clash) → IsClash g walk a k → ClashIsWithin g k
  clash_within walk a (Torn x) first = step_within g x.from x.event x.to is first.holds.there
  clash_within walk a (Apart x y) clash = (
    step_within g x.from x.event x.to is clash.1.holds.there,
    step_within g y.from y.event y.to is clash.2.holds.switches.there,
  )

  pub clashes_within : (walk : ℕ → List Event) (xs : List Clashing)
      → AreAll clashing_place (IsClashing g walk) xs → All (λ (c : Clashing). ClashIsWithin g c.clash) xs
  clashes_within walk xs are = all_hold clashing_place (IsClashing g walk) (λ (c : Clashing). ClashIsWithin g c.clash)
      xs are (λ c clashing. clash_within walk c.sig c.clash clashing.clash)

  -- the events of a walk and an arc are of signals
  pub more_signals : (es : List Event) (e : Event) → All (λ (x : Event). x.sig < length g.signals) es
      → e.sig < length g.signals → All (λ (x : Event). x.sig < length g.signals) (es ++ e ∷ [])
  more_signals es e all one = All-push (λ (x : Event). x.sig < length g.signals)
      es e all one

-- the events of a way are of signals
pub way_signals : (g : StateGraph) (s : ℕ) (es : List Event) → IsGraph g → IsWayTo g s es
    → All (λ e. e.sig < length g.signals) es
way_signals g s es is way = subst (All (λ (e : Event). e.sig < length g.signals)) (sym way.events_are)
    (walk_signals g AllArcs g.start (events_of way.path) s is (walk_of_path g g.start s way.path way.first.holds))

-- ---- lines by their calls
grouped : (text word one events ends walk end : List ℕ)
    → (((((text ++ word) ++ one) ++ events) ++ ends) ++ walk) ++ end
    ≡ ((text ++ word) ++ (one ++ (events ++ (ends ++ walk)))) ++ end
grouped text word one events ends walk end = simp append_assoc

spaced_both : (xs ys : List (List ℕ)) → spaced (xs ++ ys) ≡ spaced xs ++ spaced ys
spaced_both xs ys = flat_map-append (λ (w : List ℕ). 32 ∷ w) xs ys

pub breach_by_calls : (text word : List ℕ) (signals : List Signal) (states : List (List ℕ)) (s : ℕ)
    (events : List Event) (ends : List ℕ) (walk : List Event) (name t1 t2 t3 t4 t5 : List ℕ)
    → name ≡ state_at states s → t1 ≡ text ++ word → t2 ≡ t1 ++ 32 ∷ name
    → t3 ≡ t2 ++ spaced (events_words signals events) → t4 ≡ t3 ++ spaced (map (state_at states) ends)
    → t5 ≡ t4 ++ spaced (events_words signals walk)
    → t5 ++ 10 ∷ [] ≡ text ++ line (breach_line word signals states s events ends walk)
breach_by_calls text word signals states s events ends walk name t1 t2 t3 t4 t5 named e1 e2 e3 e4 e5 =
    let es = events_words signals events in
    let ns = map (state_at states) ends in
    let ws = events_words signals walk in
    rw (e5, e4, e3, e2, e1, named) (grouped text word (32 ∷ state_at states s) (spaced es) (spaced ns) (spaced ws)
    (10 ∷ [])
    ∙ ap (λ (l : List ℕ). ((text ++ word) ++ ((32 ∷ state_at states s) ++ l)) ++ 10 ∷ [])
    (sym (spaced_both es (ns ++ ws) ∙ ap (λ (l : List ℕ). spaced es ++ l) (spaced_both ns ws)))
    ∙ whole_line text word (state_at states s ∷ (es ++ (ns ++ ws))))

grouped_value : (text word one other walk end : List ℕ)
    → ((((text ++ word) ++ one) ++ other) ++ walk) ++ end ≡ ((text ++ word) ++ (one ++ (other ++ walk))) ++ end
grouped_value text word one other walk end = simp append_assoc

pub value_by_calls : (text : List ℕ) (signals : List Signal) (states : List (List ℕ)) (a s : ℕ) (walk : List Event)
    (signal name t1 t2 t3 t4 : List ℕ) → signal ≡ name_of signals a → name ≡ state_at states s
    → t1 ≡ text ++ codes "inconsistent" → t2 ≡ t1 ++ 32 ∷ signal → t3 ≡ t2 ++ 32 ∷ name
    → t4 ≡ t3 ++ spaced (events_words signals walk)
    → t4 ++ 10 ∷ [] ≡ text ++ line (value_line signals states a s walk)
value_by_calls text signals states a s walk signal name t1 t2 t3 t4 one other e1 e2 e3 e4 =
    rw (e4, e3, e2, e1, one, other) (grouped_value text (codes "inconsistent") (32 ∷ name_of signals a)
    (32 ∷ state_at states s) (spaced (events_words signals walk)) (10 ∷ [])
    ∙ whole_line text (codes "inconsistent") (name_of signals a ∷ state_at states s ∷ events_words signals walk))

-- the names of states, one after another
pub state_more : (states : List (List ℕ)) (ends : List ℕ) (k t : ℕ) (name old text new : List ℕ) → k < length ends
    → t ≡ get_or ends k t → name ≡ state_at states t
    → text ≡ old ++ spaced (map (state_at states) (take k ends)) → new ≡ text ++ 32 ∷ name
    → new ≡ old ++ spaced (map (state_at states) (take (k + 1) ends))
state_more states ends k t name old text new within at named so_far is =
    is ∙ ap₂ (λ (l n : List ℕ). l ++ 32 ∷ n) so_far named
    ∙ append_assoc old (spaced (map (state_at states) (take k ends))) (32 ∷ state_at states t)
    ∙ ap (λ (l : List ℕ). old ++ l) step
  where
    longer : take k ends ++ t ∷ [] ≡ take (k + 1) ends
    longer = ap (λ (u : ℕ). take k ends ++ u ∷ []) at ∙ sym (take_more ends k t within)

    step : spaced (map (state_at states) (take k ends)) ++ 32 ∷ state_at states t
        ≡ spaced (map (state_at states) (take (k + 1) ends))
    step = ap (λ (l : List ℕ). spaced (map (state_at states) (take k ends)) ++ l)
        (sym (append-nil (32 ∷ state_at states t)))
        ∙ sym (spaced_both (map (state_at states) (take k ends)) (state_at states t ∷ []))
        ∙ ap spaced (sym (map-append (state_at states) (take k ends) (t ∷ [])) ∙ ap (map (state_at states)) longer)

-- ---- the same line by other words
module _ (known signals : List Signal) (states : List (List ℕ)) (walk : ℕ → List Event) (es : List Event)
    (old new : List ℕ) (named : known ≡ signals) where
  pub split_as : (b d : Split) → b ≡ d → es ≡ walk b.s
      → new ≡ old ++ line (breach_line (codes "nondeterministic") known states b.s (b.e ∷ []) (b.t ∷ b.u ∷ []) es)
      → new ≡ old ++ line (split_line signals states walk d)
  split_as b d same way is = is ∙ (λ i. old ++ line (breach_line (codes "nondeterministic") (named i) states b.s
      (b.e ∷ []) (b.t ∷ b.u ∷ []) (way i))) ∙ ap (λ (x : Split). old ++ line (split_line signals states walk x)) same

  pub fork_as : (b d : Fork) → b ≡ d → es ≡ walk b.s
      → new ≡ old ++ line (breach_line (codes "noncommutative") known states b.s (b.a ∷ b.c ∷ []) (b.w ∷ b.w2 ∷ []) es)
      → new ≡ old ++ line (fork_line signals states walk d)
  fork_as b d same way is = is ∙ (λ i. old ++ line (breach_line (codes "noncommutative") (named i) states b.s
      (b.a ∷ b.c ∷ []) (b.w ∷ b.w2 ∷ []) (way i))) ∙ ap (λ (x : Fork). old ++ line (fork_line signals states walk x)) same

  pub lost_as : (b d : Loss) → b ≡ d → es ≡ walk b.s
      → new ≡ old ++ line (breach_line (codes "nonpersistent") known states b.s (b.lost ∷ b.by ∷ []) [] es)
      → new ≡ old ++ line (lost_line signals states walk d)
  lost_as b d same way is = is ∙ (λ i. old ++ line (breach_line (codes "nonpersistent") (named i) states b.s
      (b.lost ∷ b.by ∷ []) [] (way i))) ∙ ap (λ (x : Loss). old ++ line (lost_line signals states walk x)) same

-- the line of a walk by an arc, and that of a walk to a state
pub by_arc_added : (g : StateGraph) (known : List Signal) (states : List (List ℕ)) (a : ℕ) (x : Edge)
    (es fs : List Event) (old new : List ℕ) → known ≡ g.signals → x.from < g.states → IsWayTo g x.from es
    → fs ≡ es ++ x.event ∷ [] → new ≡ old ++ line (value_line known states a x.to fs)
    → AddsLines g (λ walk. value_line g.signals states a x.to (by_arc walk x) ∷ []) old new
by_arc_added g known states a x es fs old new named small way pushed is walk walks =
    let same : es ≡ walk x.from = one_way_to g x.from es (walk x.from) way (walks x.from small) in
    let whole : fs ≡ by_arc walk x = pushed ∙ ap (λ (l : List Event). l ++ x.event ∷ []) same in
    is ∙ (λ i. old ++ line (value_line (named i) states a x.to (whole i)))
    ∙ ap (λ (l : List ℕ). old ++ l) (sym (append-nil (line (value_line g.signals states a x.to (by_arc walk x)))))

pub way_added : (g : StateGraph) (known : List Signal) (states : List (List ℕ)) (a s : ℕ) (es fs : List Event)
    (old new : List ℕ) → known ≡ g.signals → s < g.states → IsWayTo g s es → fs ≡ es
    → new ≡ old ++ line (value_line known states a s fs)
    → AddsLines g (λ walk. value_line g.signals states a s (walk s) ∷ []) old new
way_added g known states a s es fs old new named small way equal is walk walks =
    let same : fs ≡ walk s = equal ∙ one_way_to g s es (walk s) way (walks s small) in
    is ∙ (λ i. old ++ line (value_line (named i) states a s (same i)))
    ∙ ap (λ (l : List ℕ). old ++ l) (sym (append-nil (line (value_line g.signals states a s (walk s)))))

-- ---- lines, and lines behind them
pub both_added : (g : StateGraph) (one other : (ℕ → List Event) → List (List (List ℕ))) (old mid new : List ℕ)
    → AddsLines g one old mid → AddsLines g other mid new → AddsLines g (λ walk. one walk ++ other walk) old new
both_added g one other old mid new first second walk walks =
    second walk walks ∙ ap (λ (l : List ℕ). l ++ text_of (other walk)) (first walk walks)
    ∙ append_assoc old (text_of (one walk)) (text_of (other walk))
    ∙ ap (λ (l : List ℕ). old ++ l) (sym (flat_map-append line (one walk) (other walk)))

module _ (g : StateGraph) (states : List (List ℕ)) (xs : List Clashing) where
  abbrev pub lines_to : ℕ → (ℕ → List Event) → List (List (List ℕ))
  lines_to k walk = all_clash_lines g.signals states walk (take k xs)

  pub clashes_none : (old : List ℕ) → AddsLines g (lines_to 0) old old
  clashes_none old walk walks = sym (append-nil old)

  pub clashes_more : (k : ℕ) (c : Clashing) (old text new : List ℕ) → k < length xs → c ≡ get_or xs k c
      → AddsLines g (lines_to k) old text
      → AddsLines g (λ walk. clash_lines g.signals states walk c.sig c.clash) text new
      → AddsLines g (lines_to (k + 1)) old new
  clashes_more k c old text new within at so_far is walk walks =
      both_added g (lines_to k) (λ walk. clash_lines g.signals states walk c.sig c.clash) old text new so_far is walk
      walks ∙ ap (λ (l : List (List (List ℕ))). old ++ text_of l) step
    where
      longer : take k xs ++ c ∷ [] ≡ take (k + 1) xs
      longer = ap (λ (d : Clashing). take k xs ++ d ∷ []) at ∙ sym (take_more xs k c within)

      step : lines_to k walk ++ clash_lines g.signals states walk c.sig c.clash ≡ lines_to (k + 1) walk
      step = ap (λ (l : List (List (List ℕ))). lines_to k walk ++ l)
          (sym (append-nil (clash_lines g.signals states walk c.sig c.clash)))
          ∙ sym (flat_map-append (λ (d : Clashing). clash_lines g.signals states walk d.sig d.clash) (take k xs) (c ∷ []))
          ∙ ap (all_clash_lines g.signals states walk) longer

  pub clashes_all : (k : ℕ) (old text : List ℕ) → length xs ≤ k → AddsLines g (lines_to k) old text
      → AddsLines g (λ walk. all_clash_lines g.signals states walk xs) old text
  clashes_all k old text all is walk walks =
      is walk walks ∙ ap (λ (l : List Clashing). old ++ text_of (all_clash_lines g.signals states walk l)) (take_all k xs all)

pub clash_at : (g : StateGraph) (xs : List Clashing) (k : ℕ) (c : Clashing)
    → All (λ (d : Clashing). ClashIsWithin g d.clash) xs → k < length xs → c ≡ get_or xs k c → ClashIsWithin g c.clash
clash_at g xs k c all within at =
    subst (λ (d : Clashing). ClashIsWithin g d.clash) (sym at) (all k c within)

-- ---- the text that the calls make
pub breach_text_by_calls : (g : StateGraph) (states dropped : List (List ℕ)) (b : Breaches) (count : ℕ)
    (t0 t1 t2 t3 t4 t5 t6 : List ℕ) → IsConnected g
    → ((walk : ℕ → List Event) → AreFirstWays g walk → AreBreaches g walk b)
    → count ≡ breach_count dropped b → t0 ≡ codes "" → t1 ≡ t0 ++ line (told_line count)
    → t2 ≡ t1 ++ text_of (kind_lines dropped_line dropped)
    → AddsLines g (λ walk. kind_lines (split_line g.signals states walk) b.splits) t2 t3
    → AddsLines g (λ walk. all_clash_lines g.signals states walk b.clashes) t3 t4
    → AddsLines g (λ walk. kind_lines (fork_line g.signals states walk) b.forks) t4 t5
    → AddsLines g (λ walk. kind_lines (lost_line g.signals states walk) b.losses) t5 t6
    → IsBreachText g states dropped t6
unfolding breach_text
breach_text_by_calls g states dropped b count t0 t1 t2 t3 t4 t5 t6 connected are counted e0 e1 e2 e3 e4 e5 e6 =
    let some = some_first_ways g connected in
    record {
      walk = some.0;
      walks = some.1;
      breaches = b;
      are = are some.0 some.1;
      text_is = text_is some.0 (e3 some.0 some.1.within) (e4 some.0 some.1.within) (e5 some.0 some.1.within)
          (e6 some.0 some.1.within);
    }
  where
    head : t1 ≡ text_of (told_line (breach_count dropped b) ∷ [])
    head = e1 ∙ rw (e0, counted) (sym (append-nil (line (told_line (breach_count dropped b)))))

    text_is : (walk : ℕ → List Event)
        → t3 ≡ t2 ++ text_of (kind_lines (split_line g.signals states walk) b.splits)
        → t4 ≡ t3 ++ text_of (all_clash_lines g.signals states walk b.clashes)
        → t5 ≡ t4 ++ text_of (kind_lines (fork_line g.signals states walk) b.forks)
        → t6 ≡ t5 ++ text_of (kind_lines (lost_line g.signals states walk) b.losses)
        → t6 ≡ breach_text g.signals states dropped walk b
    text_is walk splits clashes forks losses = rw (losses, forks, clashes, splits, e2, head) refl
