use Rattle.std.proofs.Common.{Some, subst}
use Rattle.si_base.specs.Codes.{code}
use Rattle.si_conflicts.specs.Loops.Keys.{key_at}
use Rattle.si_conflicts.specs.Loops.Links.{IsFirstOfCode}
use Rattle.si_conflicts.proofs.LinkLemmas.{clash_here, clash_behind, signals_apart, signals_same}
use Rattle.si_conflicts.proofs.links.first_clash.Goals as goal

pub returns-then-ne : goal.returns-then-ne
returns-then-ne c = λ low before first. (
    let d = c.args.coded.now in
    let s = c.args.s in
    let t = c.in-Some.t in
    let all = c.args.keys.now in
    let is = rw c.in-Some.is at c.requires.equal in
    let here : IsFirstOfCode d low (code d s) (Some t) =
    subst (λ o. IsFirstOfCode d low (code d s) o) c.in-Some.is first in
    clash_here d c.graph-graph.ensures.coded s low (key_at all s) c.requires.state before
    (c.requires.keys.each s c.requires.state) t (key_at all t) (c.requires.keys.each t is.1)
    (signals_apart c.ne.result c.key_of-2.result c.key_of.result (key_at all s) (key_at all t) c.ne.ensures c.if-ne.true
    c.key_of-2.ensures c.key_of.ensures) here)

pub returns : goal.returns
returns c = λ low before first. (
    let d = c.args.coded.now in
    let s = c.args.s in
    let t = c.in-Some.t in
    let all = c.args.keys.now in
    let is = rw c.in-Some.is at c.requires.equal in
    let here : IsFirstOfCode d low (code d s) (Some t) =
    subst (λ o. IsFirstOfCode d low (code d s) o) c.in-Some.is first in
    clash_behind d c.graph-graph.ensures.coded s low (key_at all s) c.requires.state before
    (c.requires.keys.each s c.requires.state) t (key_at all t) (c.requires.keys.each t is.1)
    (signals_same c.ne.result c.key_of-2.result c.key_of.result (key_at all s) (key_at all t) c.ne.ensures c.if-ne.false
    c.key_of-2.ensures c.key_of.ensures) here
    (λ u within. (key_at all u, c.requires.keys.each u within)) c.link.result (rw c.link.ensures is.3))
