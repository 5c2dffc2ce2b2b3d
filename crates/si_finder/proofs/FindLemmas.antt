-- What a refusal of a part shows, it shows of the whole.
use Rattle.std.proofs.Common.{◌≡◌, ◌↔◌, ◌≤◌, List, AllPairs, Contains, length, subst}
use Rattle.si_base.specs.Codes.{CodedGraph}
use Rattle.si_base.specs.Graph.{StateGraph}
use Rattle.si_base.specs.Limits.{max_states}
use Rattle.si_base.specs.Netlist.{Netlist}
use Rattle.si_base.specs.System.{IsReached, State}
use Rattle.si_reached.specs.Laws.{AreTold}
use Rattle.si_reached.specs.declared.state.Reached.{Reached}
use Rattle.si_reached.specs.declared.reached.Wild.{Wild}
use Rattle.si_reached.specs.declared.reached.Wild.TheVariants.{NoMemory as NoRoom, TooMany as Crowd, Astray as Strays}
use Rattle.si_reached.specs.Reached.{ComesBefore, ShowsWild, states}
use Rattle.si_finder.specs.declared.not_found.NotFound.{NotFound}
use Rattle.si_finder.specs.declared.not_found.NotFound.TheVariants.{NoMemory, TooMany, Astray, Hindered, Unbuilt}
use Rattle.si_finder.specs.NotFound.{CanBeTold, ShowsNotFound, ShowsUninserted}
use Rattle.si_finder.specs.Loops.Wild.{not_found_of}

pub wild_shows : (c : CodedGraph) (n : Netlist) (w : Wild) → ShowsWild c.graph n w → ShowsNotFound c n (not_found_of w)
wild_shows c n NoRoom shows = tt
wild_shows c n Crowd shows = shows
wild_shows c n (Strays at sig) shows = shows

pub uninserted_shows : (c : CodedGraph) (n : Netlist) (why : NotFound) → CanBeTold c.graph n → ShowsUninserted c n why
    → ShowsNotFound c n why
uninserted_shows c n NoMemory told shows = tt
uninserted_shows c n TooMany told shows = absurd shows
uninserted_shows c n (Astray at sig) told shows = absurd shows
uninserted_shows c n (Hindered l why) told shows = (told, shows)
uninserted_shows c n (Unbuilt l why) told shows = absurd shows

pub told_of : (g h : StateGraph) (n : Netlist) (xs : List Reached) → h ≡ g
    → ((x : State) → IsReached h n x ↔ Contains (states xs) x) → AllPairs ComesBefore xs → length xs ≤ max_states
    → AreTold g n xs
told_of g h n xs same each order few =
    subst (λ (k : StateGraph). AreTold k n xs) same (record { each = each; order = order; few = few })
