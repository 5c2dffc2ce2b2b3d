-- The definitions at work: the two-input C-element and small graphs of inputs.
use Rattle.std.proofs.Common.{◌≡◌, ℕ, ◌<◌, ◌⊎◌, Bool, true, false, List, [], ◌∷◌, refl, sym, ap, ◌∙◌, arith, inl, inr}
use Rattle.std.proofs.Common.{codes, slice_get, Some}
use Rattle.std.proofs.lemmas.Bool.{true≢false}
use Rattle.si_base.specs.declared.ids.Literal.{Literal}
use Rattle.si_base.specs.declared.graph.Signal.{Signal}
use Rattle.si_base.specs.declared.graph.SigKind.TheVariants.{Input, Output}
use Rattle.si_base.specs.Graph.{StateGraph, arc, rise, fall}
use Rattle.si_base.specs.Codes.{CodedGraph}
use Rattle.si_base.specs.Netlist.{Sum}
use Rattle.si_base.specs.Sets.{IsIn}
use Rattle.si_insert.specs.declared.partition.Class.{Class}
use Rattle.si_insert.specs.declared.partition.Class.TheVariants.{Low, Rising, High, Falling}
use Rattle.si_insert.specs.Partition.{class_of}
use Rattle.si_divisor.specs.declared.fault.NoPartition.TheVariants.{Unforced, Contradiction, LeavesForced, Constant}
use Rattle.si_divisor.specs.Targets.{forced_by, target}
use Rattle.si_cell.specs.Library.{Cell, Library, Instance, instance_value}
use Rattle.si_cell.specs.declared.pins.Pins.TheVariants.{Any}
use Rattle.si_divisor.specs.PartitionFor.{Sets, AreSets, class_by, IsPartitionFor, ShowsNone}
use Rattle.si_divisor.proofs.OnePartitionFor.{one_partition}
use Rattle.si_divisor.proofs.SwitchingTests.{settles_if, switches_if, each_member, each_at, targets_if}

abbrev plain : ℕ → Literal
plain a = record { sig = a; plain = true }

abbrev complemented : ℕ → Literal
complemented a = record { sig = a; plain = false }

-- the cells: pins 0 and 1, and the output behind the last pin
abbrev c2 : Sum
c2 = (plain 0 ∷ plain 1 ∷ []) ∷ (plain 0 ∷ plain 2 ∷ []) ∷ (plain 1 ∷ plain 2 ∷ []) ∷ []

abbrev and2 : Sum
and2 = (plain 0 ∷ plain 1 ∷ []) ∷ []

abbrev buf : Sum
buf = (plain 0 ∷ []) ∷ []

-- the value of the only cell of a library, with that sum and these literals at its pins
abbrev cell_of : Sum → Cell
cell_of sum = record { name = codes "G"; pins = codes "a" ∷ codes "b" ∷ []; sum = sum }

abbrev library_of : Sum → Library
library_of sum = record { name = codes "one"; cells = cell_of sum ∷ []; pins = Any }

abbrev instance_of : List Literal → Instance
instance_of literals = record { cell = 0; literals = literals }

abbrev value_of : Sum → List Literal → ℕ → Bool → Bool
value_of sum literals = instance_value (library_of sum) (instance_of literals)

abbrev a_b : List Signal
a_b = record { name = codes "a"; kind = Input } ∷ record { name = codes "b"; kind = Input } ∷ []

-- ---- the two-input C-element: s3 is 110, s4 111, s7 001
abbrev element : StateGraph
element = record {
  signals = record { name = codes "a"; kind = Input } ∷ record { name = codes "b"; kind = Input } ∷ record {
    name =
        codes "c";
    kind = Output;
  } ∷ [];
  states = 8;
  edges = arc 0 (rise 0) 1 ∷ arc 0 (rise 1) 2 ∷ arc 1 (rise 1) 3 ∷ arc 2 (rise 0) 3 ∷ arc 3 (rise 2) 4 ∷ arc 4
      (fall 0) 5 ∷ arc 4 (fall 1) 6 ∷ arc 5 (fall 1) 7 ∷ arc 6 (fall 0) 7 ∷ arc 7 (fall 2) 0 ∷ [];
  start = 0;
}

abbrev coded_element : CodedGraph
coded_element = record { graph = element; codes = 0 ∷ 1 ∷ 2 ∷ 3 ∷ 7 ∷ 6 ∷ 5 ∷ 4 ∷ [] }

abbrev forced_c2 : Bool → ℕ → Bool
forced_c2 = forced_by (value_of c2 (plain 0 ∷ plain 1 ∷ [])) coded_element

abbrev forced_and2 : Bool → ℕ → Bool
forced_and2 = forced_by (value_of and2 (plain 0 ∷ plain 1 ∷ [])) coded_element

-- a C-element of a and b holds but at s3, s4 and at s0, s7; so it settles at 1 at s5 and s6, and at 0 at s1 and s2
abbrev sets_c2 : Sets
sets_c2 = record {
  ones = false ∷ false ∷ false ∷ true ∷ true ∷ true ∷ true ∷ false ∷ [];
  zeros = true ∷ true ∷ true ∷ false ∷ false ∷ false ∷ false ∷ true ∷ [];
  plus = false ∷ false ∷ false ∷ true ∷ false ∷ false ∷ false ∷ false ∷ [];
  minus = false ∷ false ∷ false ∷ false ∷ false ∷ false ∷ false ∷ true ∷ [];
}

are_c2 : AreSets element forced_c2 sets_c2
are_c2 = record {
  settled = record {
    at_one = record {
      size = refl;
      meets = settles_if element forced_c2 true sets_c2.ones refl;
      least = λ other size x. (
          let s4 : IsIn other 4 = x.begins 4 (omega arith) refl in
          each_member (IsIn other) sets_c2.ones (
            x.begins 3 (omega arith) refl,
            (
              s4,
              (
                x.goes_on 4 (fall 0) 5 (5, omega arith, refl) s4 refl,
                (x.goes_on 4 (fall 1) 6 (6, omega arith, refl) s4 refl, tt),
              ),
            ),
          ));
    };
    at_zero = record {
      size = refl;
      meets = settles_if element forced_c2 false sets_c2.zeros refl;
      least = λ other size x. (
          let s0 : IsIn other 0 = x.begins 0 (omega arith) refl in
          each_member (IsIn other) sets_c2.zeros (
            s0,
            (
              x.goes_on 0 (rise 0) 1 (0, omega arith, refl) s0 refl,
              (x.goes_on 0 (rise 1) 2 (1, omega arith, refl) s0 refl, (x.begins 7 (omega arith) refl, tt)),
            ),
          ));
    };
  };
  targets = targets_if element sets_c2.ones sets_c2.zeros refl refl refl;
  rising = record {
    size = refl;
    meets = switches_if element (target sets_c2.ones) true sets_c2.plus refl;
    least =
        λ other size x. each_member (IsIn other) sets_c2.plus (
          x.entered 1 (rise 1) 3 (2, omega arith, refl) refl refl,
          tt,
        );
  };
  falling = record {
    size = refl;
    meets = switches_if element (target sets_c2.ones) false sets_c2.minus refl;
    least =
        λ other size x. each_member (IsIn other) sets_c2.minus (
          x.entered 5 (fall 1) 7 (7, omega arith, refl) refl refl,
          tt,
        );
  };
}

-- Rising s3, Falling s7
pub partition_c2 : IsPartitionFor element forced_c2 (Low ∷ Low ∷ Low ∷ Rising ∷ High ∷ High ∷ High ∷ Falling ∷ [])
partition_c2 = record {
  sets = sets_c2;
  are = are_c2;
  stays = λ s leaves. elim leaves [
    | inl up ↦ true≢false (sym (each_member (λ t. forced_c2 true t ≡ true) sets_c2.plus (refl, tt) s up.0) ∙ up.1)
    | inr down ↦ true≢false (sym (each_member (λ t. forced_c2 false t ≡ true) sets_c2.minus (refl, tt) s down.0)
        ∙ down.1)
  ];
  rises = (3, refl);
  falls = (7, refl);
  count = refl;
  classes_are =
      each_at (λ s. class_of (Low ∷ Low ∷ Low ∷ Rising ∷ High ∷ High ∷ High ∷ Falling ∷ []) s ≡ class_by sets_c2 s) 8
      (refl, (refl, (refl, (refl, (refl, (refl, (refl, (refl, tt))))))));
}

-- a gate `a b` is forced everywhere; it falls where a or b falls, and until c follows
abbrev sets_and2 : Sets
sets_and2 = record {
  ones = false ∷ false ∷ false ∷ true ∷ true ∷ false ∷ false ∷ false ∷ [];
  zeros = true ∷ true ∷ true ∷ false ∷ false ∷ true ∷ true ∷ true ∷ [];
  plus = false ∷ false ∷ false ∷ true ∷ false ∷ false ∷ false ∷ false ∷ [];
  minus = false ∷ false ∷ false ∷ false ∷ false ∷ true ∷ true ∷ true ∷ [];
}

input_a : (x : Signal) × (slice_get element.signals 0 ≡ Some x) × (x.kind ≡ Input)
input_a = (record { name = codes "a"; kind = Input }, refl, refl)

are_and2 : AreSets element forced_and2 sets_and2
are_and2 = record {
  settled = record {
    at_one = record {
      size = refl;
      meets = settles_if element forced_and2 true sets_and2.ones refl;
      least =
          λ other size x. each_member (IsIn other) sets_and2.ones (
            x.begins 3 (omega arith) refl,
            (x.begins 4 (omega arith) refl, tt),
          );
    };
    at_zero = record {
      size = refl;
      meets = settles_if element forced_and2 false sets_and2.zeros refl;
      least = λ other size x.
          each_member (IsIn other) sets_and2.zeros (
            x.begins 0 (omega arith) refl,
            (
              x.begins 1 (omega arith) refl,
              (
                x.begins 2 (omega arith) refl,
                (
                  x.begins 5 (omega arith) refl,
                  (x.begins 6 (omega arith) refl, (x.begins 7 (omega arith) refl, tt)),
                ),
              ),
            ),
          );
    };
  };
  targets = targets_if element sets_and2.ones sets_and2.zeros refl refl refl;
  rising = record {
    size = refl;
    meets = switches_if element (target sets_and2.ones) true sets_and2.plus refl;
    least =
        λ other size x. each_member (IsIn other) sets_and2.plus
        (x.entered 1 (rise 1) 3 (2, omega arith, refl) refl refl, tt);
  };
  falling = record {
    size = refl;
    meets = switches_if element (target sets_and2.ones) false sets_and2.minus refl;
    least = λ other size x. (
        let s5 : IsIn other 5 = x.entered 4 (fall 0) 5 (5, omega arith, refl) refl refl in
        let s6 : IsIn other 6 = x.entered 4 (fall 1) 6 (6, omega arith, refl) refl refl in
        each_member (IsIn other) sets_and2.minus
        (s5, (s6, (x.inputs 6 (fall 0) 7 (8, omega arith, refl) input_a s6, tt))));
  };
}

-- Rising s3, Falling s5, s6, s7, High s4
abbrev classes_and2 : List Class
classes_and2 = Low ∷ Low ∷ Low ∷ Rising ∷ High ∷ Falling ∷ Falling ∷ Falling ∷ []

pub partition_and2 : IsPartitionFor element forced_and2 classes_and2
partition_and2 = record {
  sets = sets_and2;
  are = are_and2;
  stays = λ s leaves. elim leaves [
    | inl up ↦ true≢false (sym (each_member (λ t. forced_and2 true t ≡ true) sets_and2.plus (refl, tt) s up.0) ∙ up.1)
    | inr down ↦
        true≢false
        (sym (each_member (λ t. forced_and2 false t ≡ true) sets_and2.minus (refl, (refl, (refl, tt))) s down.0)
        ∙ down.1)
  ];
  rises = (3, refl);
  falls = (5, refl);
  count = refl;
  classes_are =
      each_at (λ s. class_of classes_and2 s ≡ class_by sets_and2 s) 8 (
        refl,
        (refl, (refl, (refl, (refl, (refl, (refl, (refl, tt))))))),
      );
}

-- a larger set of Rising states is no answer, though s4 is forced 1 too
pub larger_is_none : IsPartitionFor element forced_and2
    (Low ∷ Low ∷ Low ∷ Rising ∷ Rising ∷ Falling ∷ Falling ∷ Falling ∷ []) → ⊥
larger_is_none p = let same : High ≡ Rising =
    ap (λ xs. class_of xs 4) (one_partition element forced_and2 classes_and2
    (Low ∷ Low ∷ Low ∷ Rising ∷ Rising ∷ Falling ∷ Falling ∷ Falling ∷ []) partition_and2 p) in cc

-- ---- inputs a and b: s0 a+ s1, s1 b+ s2, s2 b- s1
abbrev lasso : StateGraph
lasso = record {
  signals = a_b;
  states = 3;
  edges =
      arc 0 (rise 0) 1 ∷ arc 1 (rise 1) 2 ∷ arc 2 (fall 1) 1 ∷ [];
  start = 0;
}

abbrev coded_lasso : CodedGraph
coded_lasso = record { graph = lasso; codes = 0 ∷ 1 ∷ 3 ∷ [] }

abbrev forced_lasso : Sum → List Literal → Bool → ℕ → Bool
forced_lasso sum literals = forced_by (value_of sum literals) coded_lasso

-- a C-element of a and b' holds at s0, and nothing enters s0
abbrev c2_ab' : Bool → ℕ → Bool
c2_ab' = forced_lasso c2 (plain 0 ∷ complemented 1 ∷ [])

none_before_0 : (y : ℕ) → (y < 0) ⊎ ((y ≡ 0) × ⊥) → ⊥
none_before_0 y (inl below) = omega (arith, below)
none_before_0 y (inr (same, none)) = none

pub unforced : ShowsNone lasso c2_ab' (Unforced 0)
unforced = (
  false ∷ true ∷ true ∷ [],
  false ∷ false ∷ false ∷ [],
  record {
    at_one = record {
      size = refl;
      meets = settles_if lasso c2_ab' true (false ∷ true ∷ true ∷ []) refl;
      least = λ other size x. (
          let s1 : IsIn other 1 = x.begins 1 (omega arith) refl in
          each_member (IsIn other) (false ∷ true ∷ true ∷ [])
          (s1, (x.goes_on 1 (rise 1) 2 (1, omega arith, refl) s1 refl, tt)));
    };
    at_zero = record {
      size = refl;
      meets = settles_if lasso c2_ab' false (false ∷ false ∷ false ∷ []) refl;
      least =
          λ other size x. each_member (IsIn other) (false ∷ false ∷ false ∷ []) tt;
    };
  },
  record {
    holds = record { within = omega arith; not_one = λ h. true≢false (sym h); not_zero = λ h. true≢false (sym h) };
    none_before = λ y _ before. none_before_0 y before;
  },
)

-- a C-element of a and b holds at s1, which both s0, forced 0, and s2, forced 1, enter
abbrev c2_ab : Bool → ℕ → Bool
c2_ab = forced_lasso c2 (plain 0 ∷ plain 1 ∷ [])

pub contradiction : ShowsNone lasso c2_ab (Contradiction 1)
contradiction = (
  false ∷ true ∷ true ∷ [],
  true ∷ true ∷ false ∷ [],
  record {
    at_one = record {
      size = refl;
      meets = settles_if lasso c2_ab true (false ∷ true ∷ true ∷ []) refl;
      least = λ other size x. (
          let s2 : IsIn other 2 = x.begins 2 (omega arith) refl in
          each_member (IsIn other) (false ∷ true ∷ true ∷ []) (
            x.goes_on 2 (fall 1) 1 (2, omega arith, refl) s2 refl,
            (s2, tt),
          ));
    };
    at_zero = record {
      size = refl;
      meets = settles_if lasso c2_ab false (true ∷ true ∷ false ∷ []) refl;
      least = λ other size x. (
          let s0 : IsIn other 0 = x.begins 0 (omega arith) refl in
          each_member (IsIn other) (true ∷ true ∷ false ∷ [])
          (s0, (x.goes_on 0 (rise 0) 1 (0, omega arith, refl) s0 refl, tt)));
    };
  },
  (λ t u. each_at (λ s. (IsIn (false ∷ true ∷ true ∷ []) s → ⊥) → (IsIn (true ∷ true ∷ false ∷ []) s → ⊥)
      → ⊥) 3 ((λ p q. q refl), ((λ p q. p refl), ((λ p q. p refl), tt))) t u.within u.not_one u.not_zero),
  record {
    holds = record { one = refl; zero = refl };
    none_before = λ y torn before. elim before [
      | inl below ↦ (let same : y ≡ 0 = omega (arith, below) in true≢false (sym (rw same at torn.one)))
      | inr same ↦ same.1
    ];
  },
)

-- a buffer of a rises at s1 and s2, and never falls
abbrev buf_a : Bool → ℕ → Bool
buf_a = forced_lasso buf (plain 0 ∷ [])

abbrev sets_buf : Sets
sets_buf = record {
  ones = false ∷ true ∷ true ∷ [];
  zeros = true ∷ false ∷ false ∷ [];
  plus =
      false ∷ true ∷ true ∷ [];
  minus = false ∷ false ∷ false ∷ [];
}

input_b : (x : Signal) × (slice_get a_b 1 ≡ Some x) × (x.kind ≡ Input)
input_b = (record { name = codes "b"; kind = Input }, refl, refl)

are_buf : AreSets lasso buf_a sets_buf
are_buf = record {
  settled = record {
    at_one = record {
      size = refl;
      meets = settles_if lasso buf_a true sets_buf.ones refl;
      least =
          λ other size x. each_member (IsIn other) sets_buf.ones (
            x.begins 1 (omega arith) refl,
            (x.begins 2 (omega arith) refl, tt),
          );
    };
    at_zero = record {
      size = refl;
      meets = settles_if lasso buf_a false sets_buf.zeros refl;
      least =
          λ other size x. each_member (IsIn other) sets_buf.zeros (x.begins 0 (omega arith) refl, tt);
    };
  };
  targets = targets_if lasso sets_buf.ones sets_buf.zeros refl refl refl;
  rising = record {
    size = refl;
    meets = switches_if lasso (target sets_buf.ones) true sets_buf.plus refl;
    least = λ other size x. (
        let s1 : IsIn other 1 = x.entered 0 (rise 0) 1 (0, omega arith, refl) refl refl in
        each_member (IsIn other) sets_buf.plus (s1, (x.inputs 1 (rise 1) 2 (1, omega arith, refl) input_b s1, tt)));
  };
  falling = record {
    size = refl;
    meets = switches_if lasso (target sets_buf.ones) false sets_buf.minus refl;
    least =
        λ other size x. each_member (IsIn other) sets_buf.minus tt;
  };
}

pub constant : ShowsNone lasso buf_a Constant
constant = (
  sets_buf,
  are_buf,
  (λ s leaves. elim leaves [
    | inl up ↦ true≢false (sym (each_member (λ t. buf_a true t ≡ true) sets_buf.plus (refl, (refl, tt)) s up.0)
        ∙ up.1)
    | inr down ↦ each_member (λ t. ⊥) sets_buf.minus tt s down.0
  ]),
  inr (λ some. each_member (λ t. ⊥) sets_buf.minus tt some.0 some.1),
)

-- ---- inputs a and b: s0 a+ s1, s1 b+ s2, s2 a- s3, s3 b- s0
abbrev ring : StateGraph
ring = record {
  signals = a_b;
  states = 4;
  edges =
      arc 0 (rise 0) 1 ∷ arc 1 (rise 1) 2 ∷ arc 2 (fall 0) 3 ∷ arc 3 (fall 1) 0 ∷ [];
  start = 0;
}

abbrev forced_ring : Bool → ℕ → Bool
forced_ring = forced_by (value_of c2 (plain 0 ∷ plain 1 ∷ [])) (record { graph = ring; codes = 0 ∷ 1 ∷ 3 ∷ 2 ∷ [] })

-- it rises first at s2, and inputs lead from there to everywhere
abbrev sets_ring : Sets
sets_ring = record {
  ones = false ∷ false ∷ true ∷ true ∷ [];
  zeros = true ∷ true ∷ false ∷ false ∷ [];
  plus =
      true ∷ true ∷ true ∷ true ∷ [];
  minus = true ∷ true ∷ true ∷ true ∷ [];
}

input_a' : (x : Signal) × (slice_get a_b 0 ≡ Some x) × (x.kind ≡ Input)
input_a' = (record { name = codes "a"; kind = Input }, refl, refl)

are_ring : AreSets ring forced_ring sets_ring
are_ring = record {
  settled = record {
    at_one = record {
      size = refl;
      meets = settles_if ring forced_ring true sets_ring.ones refl;
      least = λ other size x. (
          let s2 : IsIn other 2 = x.begins 2 (omega arith) refl in
          each_member (IsIn other) sets_ring.ones (s2, (x.goes_on 2 (fall 0) 3 (2, omega arith, refl) s2 refl, tt)));
    };
    at_zero = record {
      size = refl;
      meets = settles_if ring forced_ring false sets_ring.zeros refl;
      least = λ other size x. (
          let s0 : IsIn other 0 = x.begins 0 (omega arith) refl in
          each_member (IsIn other) sets_ring.zeros (s0, (x.goes_on 0 (rise 0) 1 (0, omega arith, refl) s0 refl, tt)));
    };
  };
  targets = targets_if ring sets_ring.ones sets_ring.zeros refl refl refl;
  rising = record {
    size = refl;
    meets = switches_if ring (target sets_ring.ones) true sets_ring.plus refl;
    least = λ other size x. (
        let s2 : IsIn other 2 = x.entered 1 (rise 1) 2 (1, omega arith, refl) refl refl in
        let s3 : IsIn other 3 = x.inputs 2 (fall 0) 3 (2, omega arith, refl) input_a' s2 in
        let s0 : IsIn other 0 = x.inputs 3 (fall 1) 0 (3, omega arith, refl) input_b s3 in
        each_member (IsIn other) sets_ring.plus (
          s0,
          (
            x.inputs 0 (rise 0) 1 (0, omega arith, refl) input_a' s0,
            (s2, (s3, tt)),
          ),
        ));
  };
  falling = record {
    size = refl;
    meets = switches_if ring (target sets_ring.ones) false sets_ring.minus refl;
    least = λ other size x. (
        let s0 : IsIn other 0 = x.entered 3 (fall 1) 0 (3, omega arith, refl) refl refl in
        let s1 : IsIn other 1 = x.inputs 0 (rise 0) 1 (0, omega arith, refl) input_a' s0 in
        let s2 : IsIn other 2 = x.inputs 1 (rise 1) 2 (1, omega arith, refl) input_b s1 in
        each_member (IsIn other) sets_ring.minus
        (s0, (s1, (s2, (x.inputs 2 (fall 0) 3 (2, omega arith, refl) input_a' s2, tt)))));
  };
}

pub leaves_forced : ShowsNone ring forced_ring (LeavesForced 0)
leaves_forced =
    (sets_ring, are_ring, record { holds = inl (refl, refl); none_before = λ y _ before. none_before_0 y before })
