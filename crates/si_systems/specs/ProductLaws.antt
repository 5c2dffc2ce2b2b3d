-- (law) What laws say of texts of products.
use Rattle.std.specs.Prelude.{◌≡◌, ◌↔◌, ℕ, ◌<◌, List, length, map, Ok}
use Rattle.si_base.specs.declared.ids.Event.{Event}
use Rattle.si_base.specs.GivenGraph.{Sg}
use Rattle.si_base.specs.Graph.{StateGraph}
use Rattle.si_product.specs.Laws.{IsWalked, PartsWalk}
use Rattle.si_product.specs.Product.{IsProduct}
use Rattle.si_sg.specs.GivenGraph.{IsGivenBy}
use Rattle.si_systems.specs.Laws.{AreGivenBy}
use Rattle.si_systems.specs.Names.{composed_sg}
use Rattle.si_systems.specs.Product.{product}

-- the graphs alone
abbrev pub graphs_of : List Sg → List StateGraph
graphs_of given = map (λ g. g.graph) given

-- the texts give graphs, and the text `output` gives their product: its walks are the words that
-- leave each graph a word which it walks
pub record IsProductText (texts : List (List ℕ)) (output : List ℕ) : Type 0 where
  pub given : List Sg
  pub given_are : AreGivenBy texts given
  pub tuples : List (List ℕ)
  pub whole : StateGraph
  pub is_product : IsProduct (graphs_of given) tuples whole
  pub reads_back : IsGivenBy output (composed_sg given tuples whole)
  pub walks : (es : List Event) → IsWalked whole es ↔ PartsWalk (graphs_of given) whole.signals es

-- an output is the text of the product of the graphs that the texts give
abbrev pub ProductsServe : Type 0
ProductsServe = (files texts : List (List ℕ)) (output : List ℕ) → length texts ≡ length files
    → 0 < length files → product files texts (Ok output) → IsProductText texts output
