use Rattle.std.proofs.Common.{◌∙◌, []}
use Rattle.std.proofs.lemmas.Result.{err_from_is_err_and}
use Rattle.si_netlist_reader.proofs.ReaderLemmas.{opens, begins, failed, to1, to2, to3, to4, to5, parts_are, makes}
use Rattle.si_netlist_reader.proofs.ReaderLemmas.{rest1, rest2, rest3}
use Rattle.si_netlist_reader.proofs.reader.read_netlist.Goals as goal

pub returns-in_err-header : goal.returns-in_err-header
returns-in_err-header c =
    let opened = opens c.args.text.now _ _ _ c.new-rows.ensures c.take_version-limit.ensures.limit
    c.take_version-limit.ensures.left in
    let p = err_from_is_err_and c.from_residual-in_err-header.result c.from_residual-in_err-header.ensures.1 in
    record {
      gives = failed (λ n. n) c.from_residual-in_err-header.result _ _ _ _ _ p.1 p.2
          (begins _ c.args.text.now _ opened) c.in_err-header.ensures.err;
    }

pub returns-in_err-inserts : goal.returns-in_err-inserts
returns-in_err-inserts c =
    let opened = opens c.args.text.now _ _ _ c.new-rows.ensures c.take_version-limit.ensures.limit
    c.take_version-limit.ensures.left in
    let p = err_from_is_err_and c.from_residual-in_err-inserts.result c.from_residual-in_err-inserts.ensures.1 in
    record {
      gives = failed (λ n. n) c.from_residual-in_err-inserts.result _ _ _ _ _ p.1 p.2
          (begins _ c.args.text.now _ opened ∙ to1 _ _ _ _ _ c.in_ok-header.ensures.ok)
          (c.in_err-inserts.ensures.err (rest1 c.read_header.new.names c.in_ok-header.header.inputs));
    }

pub returns-in_err-word_row : goal.returns-in_err-word_row
returns-in_err-word_row c =
    let opened = opens c.args.text.now _ _ _ c.new-rows.ensures c.take_version-limit.ensures.limit
    c.take_version-limit.ensures.left in
    let p = err_from_is_err_and c.from_residual-in_err-word_row.result c.from_residual-in_err-word_row.ensures.1 in
    record {
      gives = failed (λ n. n) c.from_residual-in_err-word_row.result _ _ _ _ _ p.1 p.2
          (begins _ c.args.text.now _ opened ∙ to2 _ _ _ _ _ _ _ c.in_ok-header.ensures.ok c.in_ok-inserts.ensures.ok)
          (c.in_err-word_row.ensures.err (rest2 c.read_header.new.names c.in_ok-header.header.inputs));
    }

pub returns-in_err-gates : goal.returns-in_err-gates
returns-in_err-gates c =
    let opened = opens c.args.text.now _ _ _ c.new-rows.ensures c.take_version-limit.ensures.limit
    c.take_version-limit.ensures.left in
    let p = err_from_is_err_and c.from_residual-in_err-gates.result c.from_residual-in_err-gates.ensures.1 in
    record {
      gives = failed (λ n. n) c.from_residual-in_err-gates.result _ _ _ _ _ p.1 p.2 (begins _ c.args.text.now _ opened
          ∙ to3 _ _ _ _ _ _ _ _ c.in_ok-header.ensures.ok c.in_ok-inserts.ensures.ok c.in_ok-word_row.ensures.ok)
          (c.in_err-gates.ensures.err rest3);
    }

pub returns-in_err-word_row-2 : goal.returns-in_err-word_row-2
returns-in_err-word_row-2 c =
    let opened = opens c.args.text.now _ _ _ c.new-rows.ensures c.take_version-limit.ensures.limit
    c.take_version-limit.ensures.left in
    let p = err_from_is_err_and c.from_residual-in_err-word_row-2.result c.from_residual-in_err-word_row-2.ensures.1 in
    record {
      gives = failed (λ n. n) c.from_residual-in_err-word_row-2.result _ _ _ _ _ p.1 p.2
          (begins _ c.args.text.now _ opened ∙ to4 _ _ _ _ _ _ _ (record {
            l1 = _;
            l2 = _;
            l3 = _;
            head = c.in_ok-header.ensures.ok;
            inserted = c.in_ok-inserts.ensures.ok;
            word = c.in_ok-word_row.ensures.ok;
            gated = c.in_ok-gates.ensures.ok;
          })) (c.in_err-word_row-2.ensures.err []);
    }

pub returns-in_err-finish : goal.returns-in_err-finish
returns-in_err-finish c =
    let opened = opens c.args.text.now _ _ _ c.new-rows.ensures c.take_version-limit.ensures.limit
    c.take_version-limit.ensures.left in
    let p = err_from_is_err_and c.from_residual-in_err-finish.result c.from_residual-in_err-finish.ensures.1 in
    record {
      gives = failed (λ n. n) c.from_residual-in_err-finish.result _ _ _ _ _ p.1 p.2
          (begins _ c.args.text.now _ opened ∙ to5 _ _ _ _ _ _ _ _ (record {
            l1 = _;
            l2 = _;
            l3 = _;
            head = c.in_ok-header.ensures.ok;
            inserted = c.in_ok-inserts.ensures.ok;
            word = c.in_ok-word_row.ensures.ok;
            gated = c.in_ok-gates.ensures.ok;
          }) c.in_ok-word_row-2.ensures.ok) c.in_err-finish.ensures.err;
    }

pub make-requires : goal.make-requires
make-requires c =
    let opened = opens c.args.text.now _ _ _ c.new-rows.ensures c.take_version-limit.ensures.limit
    c.take_version-limit.ensures.left in
    makes _ c.args.text.now _ _ _ _ _ _ _ _ opened (record {
      l1 = _;
      l2 = _;
      l3 = _;
      head = c.in_ok-header.ensures.ok;
      inserted = c.in_ok-inserts.ensures.ok;
      word = c.in_ok-word_row.ensures.ok;
      gated = c.in_ok-gates.ensures.ok;
    }) c.in_ok-word_row-2.ensures.ok c.in_ok-finish.ensures.ok c.in_ok-signals.ensures

pub returns : goal.returns
returns c =
    let opened = opens c.args.text.now _ _ _ c.new-rows.ensures c.take_version-limit.ensures.limit
    c.take_version-limit.ensures.left in
    record {
      gives = (
        begins _ c.args.text.now _ opened ∙ to5 _ _ _ _ _ _ _ _ (record {
          l1 = _;
          l2 = _;
          l3 = _;
          head = c.in_ok-header.ensures.ok;
          inserted = c.in_ok-inserts.ensures.ok;
          word = c.in_ok-word_row.ensures.ok;
          gated = c.in_ok-gates.ensures.ok;
        }) c.in_ok-word_row-2.ensures.ok ∙ c.in_ok-finish.ensures.ok,
        c.make.ensures
            ∙ parts_are _ c.args.text.now _ _ _ _ _ _ _ opened (record {
              l1 = _;
              l2 = _;
              l3 = _;
              head = c.in_ok-header.ensures.ok;
              inserted = c.in_ok-inserts.ensures.ok;
              word = c.in_ok-word_row.ensures.ok;
              gated = c.in_ok-gates.ensures.ok;
            }) c.in_ok-signals.ensures,
      );
    }
