-- Loops over the parts of a list, and over other parts that are read one after another.
use Rattle.std.proofs.Common.{◌≡◌, Bool, true, false, List, Option, Some, None, Ok, sym, ap}
use Rattle.std.proofs.Common.{◌∙◌}
use Rattle.si_tokens.specs.declared.fault.ReadFault.{ReadFault}
use Rattle.si_tokens.specs.declared.fault.ReadFault.TheVariants as faults
use Rattle.si_tokens.specs.Loops.Parts.{Shows}
use Rattle.si_verilog_reader.specs.Placed.{Placed}
use Rattle.si_verilog_reader.specs.Parts.{Reading, all_parts, part_of_list, closed, unless_closed, list_at}
use Rattle.si_verilog_reader.proofs.PartLemmas.{Shrinks, one_more, last_part, part_fails}

-- ---- where the rest is read as the whole

module _ {A : Type 0} (part : A → List Placed → Reading (Bool × A)) (whole : Reading A) (a : A) (ps : List Placed)
    (so_far : all_parts part a ps ≡ whole) where
  module _ (more : Bool) (b : A) (rest : List Placed) (is : part a ps ≡ Ok ((more, b), rest)) where
    -- one more part follows
    pub goes : Shrinks part → more ≡ true → all_parts part b rest ≡ whole
    goes fewer so = sym (one_more part fewer a b ps rest
        (is ∙ ap (λ (m : Bool). Ok ((m, b), rest)) so)) ∙ so_far

    -- it was the last
    pub ends : more ≡ false → whole ≡ Ok (b, rest)
    ends so = sym so_far ∙ last_part part a b ps rest (is ∙ ap (λ (m : Bool). Ok ((m, b), rest)) so)

  pub fails : (fault : ReadFault) → Shows fault (part a ps) → Shows fault whole
  fails faults.NoMemory shows = tt
  fails (faults.Stop stop) shows = sym so_far ∙ part_fails part a ps stop shows

-- ---- lists

module _ {A : Type 0} (part : A → List Placed → Reading A) (a : A) (ps : List Placed) where
  abbrev listed : Option (List Placed) → Reading A
  listed o = unless_closed o a (all_parts (part_of_list part) a ps)

  -- a list with nothing in it
  pub is_closed : (rest : List Placed) → closed ps ≡ Some rest → list_at part a ps ≡ Ok (a, rest)
  unfolding list_at
  is_closed rest is = ap listed is

  -- it begins
  pub begins : closed ps ≡ None → all_parts (part_of_list part) a ps ≡ list_at part a ps
  unfolding list_at
  begins none = sym (ap listed none)
