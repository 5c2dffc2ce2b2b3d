use Rattle.si_tool.proofs.output.together.Goals as goal

pub returns-in-Compose-clause-ok : goal.returns-in-Compose-clause-ok
returns-in-Compose-clause-ok c = rw c.in-Compose.is c.compose_texts.ensures.ok

pub returns-in-Works-clause-ok : goal.returns-in-Works-clause-ok
returns-in-Works-clause-ok c = rw c.in-Works.is c.works_texts.ensures.ok

pub returns-in-Product-clause-ok : goal.returns-in-Product-clause-ok
returns-in-Product-clause-ok c = rw c.in-Product.is c.product_texts.ensures.ok

pub returns-in-Join-clause-ok : goal.returns-in-Join-clause-ok
returns-in-Join-clause-ok c = rw c.in-Join.is c.join_texts.ensures.ok
