use Rattle.std.proofs.Common.{refl}
use Rattle.si_cell.specs.Library.{instance_value}
use Rattle.si_divisor.specs.Functions.{function_value}
use Rattle.si_map.proofs.SearchLemmas.{found_spent, found_stays, found_tried, lowers, none_spent, spent_tried}
use Rattle.si_map.proofs.search.Search.try_function.Goals as goal

pub returns-in_default-clause-tried : goal.returns-in_default-clause-tried
returns-in_default-clause-tried c i is =
    let answer = c.in_ok-found.ensures.answer (instance_value c.args.library.now i) is.table.value in
    let spent = none_spent c.args.graph.now c.args.library.now i c.args.self.now.bar c.in_ok-found.found
    c.in_default.is answer in
    spent_tried c.args.graph.now c.args.library.now i c.args.self.now spent

pub returns-in_default-clause-spent : goal.returns-in_default-clause-spent
returns-in_default-clause-spent c i is =
    let answer = c.in_ok-found.ensures.answer (instance_value c.args.library.now i) is.table.value in
    none_spent c.args.graph.now c.args.library.now i c.args.self.now.bar c.in_ok-found.found c.in_default.is answer

pub try_partition-requires-clause-lawful : goal.try_partition-requires-clause-lawful
try_partition-requires-clause-lawful c =
    let answer = c.in_ok-found.ensures.answer (function_value c.args.function.now) (λ code q. refl) in
    (found_stays c.args.graph.now (function_value c.args.function.now) c.in-Some.partition c.in_ok-found.found
    c.requires.ready.coded c.requires.ready.proper c.in-Some.is answer).0

pub try_partition-requires-clause-proper : goal.try_partition-requires-clause-proper
try_partition-requires-clause-proper c =
    let answer = c.in_ok-found.ensures.answer (function_value c.args.function.now) (λ code q. refl) in
    (found_stays c.args.graph.now (function_value c.args.function.now) c.in-Some.partition c.in_ok-found.found
    c.requires.ready.coded c.requires.ready.proper c.in-Some.is answer).1.0

pub try_partition-requires-clause-inputs : goal.try_partition-requires-clause-inputs
try_partition-requires-clause-inputs c =
    let answer = c.in_ok-found.ensures.answer (function_value c.args.function.now) (λ code q. refl) in
    (found_stays c.args.graph.now (function_value c.args.function.now) c.in-Some.partition c.in_ok-found.found
    c.requires.ready.coded c.requires.ready.proper c.in-Some.is answer).1.1

pub returns-clause-tried : goal.returns-clause-tried
returns-clause-tried c i is =
    let answer = c.in_ok-found.ensures.answer (instance_value c.args.library.now i) is.table.value in
    found_tried c.args.graph.now c.args.library.now i c.in-Some.partition c.args.self.now c.try_partition.new.self
    c.in_ok-found.found c.in-Some.is answer c.in_ok-try_partition.ensures

pub returns-clause-lower : goal.returns-clause-lower
returns-clause-lower c =
    lowers c.args.graph.now c.args.library.now c.in-Some.partition c.args.self.now c.try_partition.new.self
    c.in_ok-try_partition.ensures

pub returns-clause-spent : goal.returns-clause-spent
returns-clause-spent c i is =
    let answer = c.in_ok-found.ensures.answer (instance_value c.args.library.now i) is.table.value in
    found_spent c.args.graph.now c.args.library.now i c.in-Some.partition c.args.self.now c.try_partition.new.self
    c.in_ok-found.found c.in-Some.is answer c.in_ok-try_partition.ensures
