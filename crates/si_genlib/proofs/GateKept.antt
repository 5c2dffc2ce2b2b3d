-- A gate that is kept or passed over, by its table.
use Rattle.std.proofs.Common.{◌≡◌, ℕ, ◌+◌, ◌<◌, ◌≤◌, ◌^◌, not, if◌then◌else◌, Bool, true, false, List, [], ◌∷◌, ◌++◌}
use Rattle.std.proofs.Common.{length, take, nat_le, Ok, Err, refl, sym, ap, subst, ◌∙◌, arith}
use Rattle.std.proofs.lemmas.Bool.{true≢false}
use Rattle.std.proofs.lemmas.Nat.{pow-add}
use Rattle.si_cell.specs.Library.{Cell}
use Rattle.si_cell.specs.LibraryText.{names_of}
use Rattle.si_base.specs.declared.fault.TextKind.TheVariants.{OwnFalling, TooManyCells}
use Rattle.si_tokens.specs.declared.fault.Stop.TheVariants.{Fault}
use Rattle.si_genlib.specs.Gate.{Gate, bits_of, pin_count, width, gate_value, falls, sum_of, cell_name, pin_names}
use Rattle.si_genlib.specs.Gate.{cell_of, with_gate, ports_of, with_ports}
use Rattle.si_genlib.specs.Ports.{Ports}
use Rattle.si_genlib.specs.Loops.Tables.{TabledGate, tabled, table_value}
use Rattle.si_genlib.proofs.ValueLemmas.{value_is, filter_same, falls_same}

second : {A : Type 0} (a b c : Bool) (x y z w : A) → a ≡ false → b ≡ true
    → (if a then x else if b then y else if c then z else w) ≡ y
second true b c x y z w m t = absurd (true≢false m)
second false true c x y z w m t = refl
second false false c x y z w m t = absurd (true≢false (sym t))

third : {A : Type 0} (a b c : Bool) (x y z w : A) → a ≡ false → b ≡ false → c ≡ true
    → (if a then x else if b then y else if c then z else w) ≡ z
third true b c x y z w m t k = absurd (true≢false m)
third false true c x y z w m t k = absurd (true≢false t)
third false false true x y z w m t k = refl
third false false false x y z w m t k = absurd (true≢false (sym k))

last : {A : Type 0} (a b c : Bool) (x y z w : A) → a ≡ false → b ≡ false → c ≡ false
    → (if a then x else if b then y else if c then z else w) ≡ w
last true b c x y z w m t k = absurd (true≢false m)
last false true c x y z w m t k = absurd (true≢false t)
last false false true x y z w m t k = absurd (true≢false k)
last false false false x y z w m t k = refl

pub passed : (cells : List Cell) (g : Gate) (t : TabledGate) → tabled g ≡ t → t.pins.more ≡ true → with_gate cells g
    ≡ Ok cells
unfolding with_gate
passed cells g t e more =
    let m : g.pins.more ≡ true = subst (λ (u : TabledGate). u.pins.more ≡ true) (sym e) more in rw m refl

pub falling : (cells : List Cell) (g : Gate) (t : TabledGate) (n : ℕ) → tabled g ≡ t → t.pins.more ≡ false → n
    ≡ length t.pins.names
    → length t.pins.names ≤ 4 → true ≡ falls n (table_value n t.table) → with_gate cells g
    ≡ Err (Fault t.line OwnFalling)
unfolding with_gate
falling cells g t n e more count few so = subst (λ (u : TabledGate). u.pins.more ≡ false → n ≡ length u.pins.names
    → length u.pins.names ≤ 4 → true ≡ falls n (table_value n u.table) → with_gate cells g
    ≡ Err (Fault u.line OwnFalling))
    e at_table more count few so
  where
    at_table : g.pins.more ≡ false → n ≡ pin_count g → pin_count g ≤ 4 → true ≡ falls n (table_value n (tabled g).table)
        → with_gate cells g ≡ Err (Fault g.line OwnFalling)
    at_table m c f s =
        let there : falls (pin_count g) (gate_value g) ≡ true =
        sym (falls_same g f) ∙ sym (subst (λ (k : ℕ). true ≡ falls k (table_value k (tabled g).table)) c s) in
        second g.pins.more (falls (pin_count g) (gate_value g)) (nat_le 64 (length cells)) (Ok cells)
        (Err (Fault g.line OwnFalling)) (Err (Fault g.line TooManyCells))
        (Ok (cells ++ cell_of (names_of cells) g ∷ [])) m there

pub full : (cells : List Cell) (g : Gate) (t : TabledGate) (n : ℕ) → tabled g ≡ t → t.pins.more ≡ false → n
    ≡ length t.pins.names
    → length t.pins.names ≤ 4 → false ≡ falls n (table_value n t.table) → nat_le 64 (length cells) ≡ true
    → with_gate cells g ≡ Err (Fault t.line TooManyCells)
unfolding with_gate
full cells g t n e more count few so many = subst (λ (u : TabledGate). u.pins.more ≡ false → n ≡ length u.pins.names
    → length u.pins.names ≤ 4 → false ≡ falls n (table_value n u.table) → with_gate cells g
    ≡ Err (Fault u.line TooManyCells))
    e at_table more count few so
  where
    at_table : g.pins.more ≡ false → n ≡ pin_count g → pin_count g ≤ 4 → false
        ≡ falls n (table_value n (tabled g).table)
        → with_gate cells g ≡ Err (Fault g.line TooManyCells)
    at_table m c f s =
        let there : falls (pin_count g) (gate_value g) ≡ false =
        sym (falls_same g f) ∙ sym (subst (λ (k : ℕ). false ≡ falls k (table_value k (tabled g).table)) c s) in
        third g.pins.more (falls (pin_count g) (gate_value g)) (nat_le 64 (length cells)) (Ok cells)
        (Err (Fault g.line OwnFalling)) (Err (Fault g.line TooManyCells))
        (Ok (cells ++ cell_of (names_of cells) g ∷ [])) m there many

-- a code of the bits is one of the pins and the own output
within : (g : Gate) (code : ℕ) → code < 2 ^ width g → code < 2 ^ (pin_count g + 1)
within g code less = by_own g.pins.own less
  where
    by_own : (own : Bool) → code < 2 ^ (pin_count g + (if own then 1 else 0)) → code < 2 ^ (pin_count g + 1)
    by_own true fits = fits
    by_own false fits =
        let same : pin_count g + 0 ≡ pin_count g = omega arith in
        let bound : code < 2 ^ pin_count g = subst (λ (k : ℕ). code < 2 ^ k) same fits in
        let twice = pow-add 2 (pin_count g) 1 in
        omega (arith, bound, twice)

sums_same : (g : Gate) → pin_count g ≤ 4
    → sum_of (width g) (table_value (pin_count g) (tabled g).table) ≡ sum_of (width g) (gate_value g)
unfolding sum_of
sums_same g few =
    let required = filter_same (table_value (pin_count g) (tabled g).table) (gate_value g) (2 ^ width g)
    (λ code less. value_is g code few (within g code less)) in
    let forbidden = filter_same (λ code. not (table_value (pin_count g) (tabled g).table code))
    (λ code. not (gate_value g code))
    (2 ^ width g) (λ code less. ap not (value_is g code few (within g code less))) in
    rw (required, forbidden) refl

pub kept : (cells items : List Cell) (cell : Cell) (g : Gate) (t : TabledGate) (n : ℕ) → tabled g ≡ t → t.pins.more
    ≡ false
    → n ≡ length t.pins.names → length t.pins.names ≤ 4 → false ≡ falls n (table_value n t.table)
    → nat_le 64 (length cells) ≡ false
    → cell ≡ record {
      name = cell_name (names_of cells) t.name;
      pins = take (length t.pins.names) pin_names;
      sum = sum_of (bits_of t.pins) (table_value (length t.pins.names) t.table);
    } → items ≡ cells ++ cell ∷ [] → with_gate cells g ≡ Ok items
unfolding with_gate cell_of
kept cells items cell g t n e more count few so room cell_is items_are =
    subst (λ (u : TabledGate). u.pins.more ≡ false → n ≡ length u.pins.names
    → length u.pins.names ≤ 4 → false ≡ falls n (table_value n u.table) → cell ≡ record {
      name = cell_name (names_of cells) u.name;
      pins = take (length u.pins.names) pin_names;
      sum = sum_of (bits_of u.pins) (table_value (length u.pins.names) u.table);
    } → with_gate cells g ≡ Ok items)
    e at_table more count few so cell_is
  where
    at_table : g.pins.more ≡ false → n ≡ pin_count g → pin_count g ≤ 4 → false
        ≡ falls n (table_value n (tabled g).table)
        → cell ≡ record {
          name = cell_name (names_of cells) g.name;
          pins = take (pin_count g) pin_names;
          sum = sum_of (width g) (table_value (pin_count g) (tabled g).table);
        } → with_gate cells g ≡ Ok items
    at_table m c f s is =
        let there : falls (pin_count g) (gate_value g) ≡ false =
        sym (falls_same g f) ∙ sym (subst (λ (k : ℕ). false ≡ falls k (table_value k (tabled g).table)) c s) in
        let same : cell ≡ cell_of (names_of cells) g = is ∙ (rw (sums_same g f) refl) in
        let all : items ≡ cells ++ cell_of (names_of cells) g ∷ [] =
        items_are ∙ ap (λ (x : Cell). cells ++ x ∷ []) same in
        last g.pins.more (falls (pin_count g) (gate_value g)) (nat_le 64 (length cells)) (Ok cells)
        (Err (Fault g.line OwnFalling)) (Err (Fault g.line TooManyCells))
        (Ok (cells ++ cell_of (names_of cells) g ∷ [])) m there room
        ∙ ap (λ (xs : List Cell). Ok xs) (sym all)

-- ---- ports
pub ports_passed : (ports : List Ports) (g : Gate) (t : TabledGate) → tabled g ≡ t → t.pins.more ≡ true
    → ports ≡ with_ports ports g
ports_passed ports g t e more =
    let m : g.pins.more ≡ true = subst (λ (u : TabledGate). u.pins.more ≡ true) (sym e) more in rw m refl

pub ports_kept : (ports items : List Ports) (last : Ports) (g : Gate) (t : TabledGate) → tabled g ≡ t → t.pins.more
    ≡ false
    → last ≡ record { pins = t.pins.names; output = t.out } → items ≡ ports ++ last ∷ [] → items ≡ with_ports ports g
ports_kept ports items last g t e more last_is items_are =
    subst (λ (u : TabledGate). u.pins.more ≡ false → last ≡ record { pins = u.pins.names; output = u.out }
    → items ≡ with_ports ports g) e at_gate more last_is
  where
    at_gate : g.pins.more ≡ false → last ≡ ports_of g → items ≡ with_ports ports g
    at_gate m is = rw m (items_are ∙ ap (λ (x : Ports). ports ++ x ∷ []) is)
