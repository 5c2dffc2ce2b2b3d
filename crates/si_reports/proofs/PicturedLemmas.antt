-- A graph has one picture and one list of its states.
use Rattle.std.proofs.Common.{ℕ, List}
use Rattle.si_base.specs.Graph.{StateGraph}
use Rattle.si_pictures.specs.StatesText.{states_text}
use Rattle.si_pictures.proofs.PictureLaws.{one_dot_text, some_dot_text}
use Rattle.si_readings.specs.Checks.{IsNamed}
use Rattle.si_readings.specs.Laws.{AtMostOne, HasResult}
use Rattle.si_readings.proofs.SeenGraphLemmas.{one_seen, some_seen}
use Rattle.si_readings.proofs.StageLemmas.{gives_one, gives_some, shows_one, shows_some, then_one, then_some}
use Rattle.si_reports.specs.Pictured.{drawn, listed}

pub drawn_one : (model : List ℕ) (states : List (List ℕ)) (g : StateGraph) → AtMostOne (drawn model states g)
drawn_one model states g =
    then_one _ _ (shows_one _ (one_seen g)) (λ seen is. shows_one _ (one_dot_text model states seen))

pub listed_one : (states : List (List ℕ)) (g : StateGraph) → AtMostOne (listed states g)
listed_one states g = then_one _ _ (shows_one _ (one_seen g)) (λ seen is. gives_one (states_text seen states))

pub drawn_some : (model : List ℕ) (states : List (List ℕ)) (g : StateGraph) → IsNamed g states
    → HasResult (drawn model states g)
drawn_some model states g named =
    then_some _ _ (shows_some _ (some_seen g named.is_graph named.connected))
    (λ seen is. shows_some _ (some_dot_text model states seen))

pub listed_some : (states : List (List ℕ)) (g : StateGraph) → IsNamed g states → HasResult (listed states g)
listed_some states g named =
    then_some _ _ (shows_some _ (some_seen g named.is_graph named.connected))
    (λ seen is. gives_some (states_text seen states))
