use Rattle.std.proofs.Common.{refl, ◌≡◌, ap, length, arith}
use Rattle.std.proofs.lemmas.Result.{err_from_is_err_and}
use Rattle.si_netlist_reader.proofs.HeaderLemmas.{failed, from1, at2, at3, at4, at5, at6, whole, formed}
use Rattle.si_netlist_reader.specs.NetlistFault.{names_at}
use Rattle.si_netlist_reader.proofs.header.read_header.Goals as goal

pub returns-in_err-model-clause-err : goal.returns-in_err-model-clause-err
returns-in_err-model-clause-err c =
    let p = err_from_is_err_and c.from_residual.result c.from_residual.ensures.1 in
    let l = c.args.rows.now.lines in
    failed c.from_residual.result _ _ _ _ p.1 p.2 refl
    (c.in_err-model.ensures.err (from1 c.args.limit (names_at 1 l) (names_at 2 l) (names_at 3 l) (names_at 4 l)))

pub returns-in_err-names_row-clause-err : goal.returns-in_err-names_row-clause-err
returns-in_err-names_row-clause-err c =
    let p = err_from_is_err_and c.from_residual-in_err-names_row.result c.from_residual-in_err-names_row.ensures.1 in
    let g = at2 _ _ _ _ c.requires.none (formed _ _ _ _ _ c.in_ok-model.ensures.ok) in
    failed c.from_residual-in_err-names_row.result _ _ _ _ p.1 p.2 g.1 (c.in_err-names_row.ensures.err g.0)

pub returns-in_err-names_row-2-clause-err : goal.returns-in_err-names_row-2-clause-err
returns-in_err-names_row-2-clause-err c =
    let p =
    err_from_is_err_and c.from_residual-in_err-names_row-2.result c.from_residual-in_err-names_row-2.ensures.1 in
    let g = at3 _ _ _ _ _ _ c.requires.none (formed _ _ _ _ _ c.in_ok-model.ensures.ok) c.in_ok-names_row.ensures.ok in
    failed c.from_residual-in_err-names_row-2.result _ _ _ _ p.1 p.2 g.1 (c.in_err-names_row-2.ensures.err g.0)

pub returns-in_err-names_row-3-clause-err : goal.returns-in_err-names_row-3-clause-err
returns-in_err-names_row-3-clause-err c =
    let p =
    err_from_is_err_and c.from_residual-in_err-names_row-3.result c.from_residual-in_err-names_row-3.ensures.1 in
    let g = at4 _ _ _ _ _ _ _ _ (record {
      none = c.requires.none;
      m = (formed _ _ _ _ _ c.in_ok-model.ensures.ok);
      t1 = c.in_ok-names_row.ensures.ok;
      t2 = c.in_ok-names_row-2.ensures.ok;
    }) in
    failed c.from_residual-in_err-names_row-3.result _ _ _ _ p.1 p.2 g.1 (c.in_err-names_row-3.ensures.err g.0)

pub returns-in_err-names_row-4-clause-err : goal.returns-in_err-names_row-4-clause-err
returns-in_err-names_row-4-clause-err c =
    let p =
    err_from_is_err_and c.from_residual-in_err-names_row-4.result c.from_residual-in_err-names_row-4.ensures.1 in
    let g = at5 _ _ _ _ _ _ _ _ _ _ (record {
      none = c.requires.none;
      m = (formed _ _ _ _ _ c.in_ok-model.ensures.ok);
      t1 = c.in_ok-names_row.ensures.ok;
      t2 = c.in_ok-names_row-2.ensures.ok;
    }) c.in_ok-names_row-3.ensures.ok in
    failed c.from_residual-in_err-names_row-4.result _ _ _ _ p.1 p.2 g.1 (c.in_err-names_row-4.ensures.err g.0)

pub returns-in_err-names_row-4-clause-few : goal.returns-in_err-names_row-4-clause-few
returns-in_err-names_row-4-clause-few c =
    let none : length c.args.names.now ≡ 0 = ap length c.requires.none in
    let one = c.in_ok-names_row.ensures.few (omega (arith, none)) in
    let two = c.in_ok-names_row-2.ensures.few one in
    let three = c.in_ok-names_row-3.ensures.few two in
    let four = c.in_err-names_row-4.ensures.few three in
    omega (arith, four, c.requires.room)

pub returns-in_err-start-clause-err : goal.returns-in_err-start-clause-err
returns-in_err-start-clause-err c =
    let p = err_from_is_err_and c.from_residual-in_err-start.result c.from_residual-in_err-start.ensures.1 in
    let g = at6 _ _ _ _ _ _ _ _ _ _ _ _ _ c.len-inserted.ensures.len (record {
      none = c.requires.none;
      m = (formed _ _ _ _ _ c.in_ok-model.ensures.ok);
      t1 = c.in_ok-names_row.ensures.ok;
      t2 = c.in_ok-names_row-2.ensures.ok;
    }) c.in_ok-names_row-3.ensures.ok c.in_ok-names_row-4.ensures.ok in
    failed c.from_residual-in_err-start.result _ _ _ _ p.1 p.2 g.1 (c.in_err-start.ensures.err g.0)

pub returns-clause-few : goal.returns-clause-few
returns-clause-few c =
    let none : length c.args.names.now ≡ 0 = ap length c.requires.none in
    let one = c.in_ok-names_row.ensures.few (omega (arith, none)) in
    let two = c.in_ok-names_row-2.ensures.few one in
    let three = c.in_ok-names_row-3.ensures.few two in
    let four = c.in_ok-names_row-4.ensures.few three in
    omega (arith, four, c.requires.room)

pub returns-clause-ok : goal.returns-clause-ok
returns-clause-ok c = whole _ _ _ _ _ _ _ _ _ _ _ _ _ _ _ c.len-inputs.ensures.len c.len-outputs.ensures.len
    c.len-internals.ensures.len c.len-inserted.ensures.len c.requires.none c.in_ok-model.ensures.ok
    c.in_ok-names_row.ensures.ok c.in_ok-names_row-2.ensures.ok c.in_ok-names_row-3.ensures.ok
    c.in_ok-names_row-4.ensures.ok c.in_ok-start.ensures.ok
