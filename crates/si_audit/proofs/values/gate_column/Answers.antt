use Rattle.std.proofs.Common.{◌≡◌, ◌<◌, ℕ, List, [], length, sym, ap, ◌∙◌, arith}
use Rattle.std.proofs.lemmas.List.{get_or_read, length-replicate}
use Rattle.si_base.specs.Bits.{bit}
use Rattle.si_base.specs.Netlist.{sum_value, value_of}
use Rattle.si_base.specs.Sets.{flag}
use Rattle.si_netlist.specs.declared.gate.Gate.{Gate}
use Rattle.si_netlist.specs.declared.gate.Gate.TheVariants.{Gc}
use Rattle.si_netlist.specs.Loops.Parts.{gate_seen}
use Rattle.si_audit.specs.Loops.Columns.{column, words_for}
use Rattle.si_audit.proofs.ColumnLemmas.{held_value}
use Rattle.si_audit.proofs.values.gate_column.Goals as goal

pub keep_where-requires : goal.keep_where-requires
keep_where-requires c =
    let size : ℕ = words_for c.args.states in
    let own = c.index-columns-z.result in
    let at : c.z.inside.0 < length c.args.columns.now =
    omega (arith, c.z.view_is, c.requires.columns.count, c.requires.signal) in
    let own_is : own ≡ column c.args.columns.now c.args.z =
    get_or_read c.args.columns.now c.z.inside.0 own at c.index-columns-z.is []
    ∙ ap (λ (z : ℕ). column c.args.columns.now z) c.z.view_is in
    c.raise_all.ensures.size ∙ ap (length {A = ℕ}) c.in_ok-held-in-Gc.ensures ∙ length-replicate size 0
    ∙ sym (ap (length {A = ℕ}) own_is ∙ c.requires.columns.sizes c.args.z c.requires.signal)

pub returns-in_ok-held-in-Gc : goal.returns-in_ok-held-in-Gc
returns-in_ok-held-in-Gc c =
    let size : ℕ = words_for c.args.states in
    let set = c.in-Gc.set in
    let reset = c.in-Gc.reset in
    let values = c.in_ok-values-in-Gc.values in
    let resets = c.in_ok-resets-in-Gc.resets in
    let own = c.index-columns-z.result in
    let at : c.z.inside.0 < length c.args.columns.now =
    omega (arith, c.z.view_is, c.requires.columns.count, c.requires.signal) in
    let own_is : own ≡ column c.args.columns.now c.args.z =
    get_or_read c.args.columns.now c.z.inside.0 own at c.index-columns-z.is []
    ∙ ap (λ (z : ℕ). column c.args.columns.now z) c.z.view_is in
    let held_size : length c.in_ok-held-in-Gc.held ≡ size =
    ap (length {A = ℕ}) c.in_ok-held-in-Gc.ensures ∙ length-replicate size 0 in
    let full_size : length c.raise_all.new.self ≡ size = c.raise_all.ensures.size ∙ held_size in
    let first_size : length c.keep_where.new.self ≡ size = c.keep_where.ensures.size ∙ full_size in
    record {
      size_is = c.unite.ensures.size ∙ c.in_ok-values-in-Gc.ensures.size_is;
      each = λ s k low has.
          let set_is : flag values s ≡ sum_value k set = c.in_ok-values-in-Gc.ensures.each s k low has in
          let reset_is : flag resets s ≡ sum_value k reset = c.in_ok-resets-in-Gc.ensures.each s k low has in
          let own_at : flag own s ≡ bit k c.args.z =
          ap (λ (ws : List ℕ). flag ws s) own_is ∙ has c.args.z c.requires.signal in
          let whole = held_value (flag c.unite.new.self s) (flag values s) (flag c.keep_where-in-Gc.new.self s)
          (flag c.keep_where.new.self s) (flag c.raise_all.new.self s) (flag own s) (flag resets s)
          (c.unite.ensures.each s)
          (c.keep_where-in-Gc.ensures.each s (omega (arith, low, first_size)))
          (c.keep_where.ensures.each s (omega (arith, low, full_size)))
          (c.raise_all.ensures.each s (omega (arith, low, held_size))) in
          let seen : value_of (gate_seen c.args.gate.now) c.args.z k ≡ value_of (gate_seen (Gc set reset)) c.args.z k =
          ap (λ (g : Gate). value_of (gate_seen g) c.args.z k) c.in-Gc.is in
          whole ∙ rw (set_is, reset_is, own_at) (sym seen);
    }
