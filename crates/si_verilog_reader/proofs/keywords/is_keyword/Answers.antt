use Rattle.std.proofs.Common.{refl}
use Rattle.si_verilog.specs.Keywords.{keywords}
use Rattle.si_verilog_reader.proofs.keywords.is_keyword.Goals as goal

pub is_among-requires : goal.is_among-requires
unfolding keywords
is_among-requires c = refl
