use Rattle.std.proofs.Common.{◌≡◌, ◌++◌, length}
use Rattle.si_verilog_reader.specs.Comments.{without_comments, without_comments_from}
use Rattle.si_verilog_reader.specs.Loops.Regions.{region_now}
use Rattle.si_verilog_reader.proofs.comments.without_comments.Given as goal

abbrev pub invariant-loop-rest : goal.invariant-loop-rest
invariant-loop-rest l = l.code ++ without_comments_from (region_now l.region) l.rest
    ≡ without_comments l.fn.text

abbrev pub decreases-loop-rest : goal.decreases-loop-rest
decreases-loop-rest l = length l.rest
