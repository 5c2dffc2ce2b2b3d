-- A buffer between an input and an output: the output fits a cell, so that no divisor serves.
use Rattle.std.proofs.Common.{◌≡◌, ℕ, zero, suc, ◌+◌, ◌≤◌, true, [], ◌∷◌, length, slice_index_or, refl, codes, arith}
use Rattle.std.proofs.Common.{None}
use Rattle.std.proofs.lemmas.List.Elements.{All-nil, All-cons}
use Rattle.si_base.specs.Codes.{CodedGraph}
use Rattle.si_base.specs.Graph.{arc, rise, fall}
use Rattle.si_base.specs.Limits.{code_width}
use Rattle.si_base.specs.Order.{Before}
use Rattle.si_base.specs.declared.graph.SigKind.TheVariants.{Input, Output}
use Rattle.si_cell.specs.Library.{Cell, Library}
use Rattle.si_cell.specs.declared.pins.Pins.TheVariants.{Any}
use Rattle.si_match.specs.Fit.{first_fit}
use Rattle.si_match.specs.Support.{support_of}
use Rattle.si_match.specs.Weight.{weight_of}
use Rattle.si_map.specs.Best.{Choice, IsBestPartition, NoneServes, choice_place}
use Rattle.si_bounds.specs.Loops.Least.{AreLeast, HaveFewPins, IsLeast}
use mathlib.Core.Logic.{inl, inr}

-- the input a is signal 0, the output b, which follows it, signal 1
abbrev pub follower : CodedGraph
follower = record {
  graph = record {
    signals = record { name = codes "a"; kind = Input } ∷ record { name = codes "b"; kind = Output } ∷ [];
    states = 4;
    edges = arc 0 (rise 0) 1 ∷ arc 1 (rise 1) 2 ∷ arc 2 (fall 0) 3 ∷ arc 3 (fall 1) 0 ∷ [];
    start = 0;
  };
  codes = 0 ∷ 1 ∷ 3 ∷ 2 ∷ [];
}

abbrev pub buffers : Library
buffers = record {
  name = codes "l";
  cells = record {
    name = codes "BUF";
    pins = codes "a" ∷ [];
    sum = (record { sig = 0; plain = true } ∷ []) ∷ [];
  } ∷ [];
  pins = Any;
}

no_weight : weight_of follower buffers ≡ 0
unfolding weight_of first_fit support_of
no_weight = refl

none_serves : NoneServes follower buffers
none_serves x serves = omega (arith, serves.lower, no_weight)

-- so there is no partition to insert
no_partition : IsBestPartition follower buffers None
no_partition = none_serves

-- of choices of one weight that of the earlier signal comes first, of those of one signal that of
-- the earlier divisor; and a lower weight comes before either
abbrev choice : ℕ → ℕ → ℕ → Choice
choice weight signal place = record { signal = signal; place = place; classes = []; weight = weight }

by_weight : Before (choice_place (choice 3 2 7)) (choice_place (choice 4 1 0))
by_weight = inl (omega arith)

by_signal : Before (choice_place (choice 3 1 7)) (choice_place (choice 3 2 0))
by_signal = inr (refl, inl (omega arith))

by_place : Before (choice_place (choice 3 1 0)) (choice_place (choice 3 1 7))
by_place = inr (refl, inr (refl, inl (omega arith)))

-- its cell has one pin, and nothing is known of its signals: one is an input, and the cell fits the other
few_pins : HaveFewPins buffers 1
few_pins = All-cons (λ (x : Cell). length x.pins ≤ 1) _ [] (omega arith) (All-nil (λ (x : Cell). length x.pins ≤ 1))

abbrev IsSmall : ℕ → Type 0
IsSmall w = w ≤ 2 + code_width

none_known : (z : ℕ) → IsLeast follower buffers [] z (slice_index_or (0 ∷ 0 ∷ []) z 0)
none_known zero more = absurd (omega (arith, more))
none_known (suc zero) more = absurd (omega (arith, more))
none_known (suc (suc z)) more = absurd (omega (arith, more))

nothing_known : AreLeast follower buffers [] (0 ∷ 0 ∷ [])
nothing_known = record {
  count = refl;
  small = All-cons IsSmall 0 (0 ∷ []) (omega arith) (All-cons IsSmall 0 [] (omega arith) (All-nil IsSmall));
  each = none_known;
}
