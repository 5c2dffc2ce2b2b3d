-- Where a byte stands, as the definitions see it.
use Rattle.si_verilog_reader.specs.Comments as spec
use Rattle.si_verilog_reader.specs.declared.comments.Region.{Region}
use Rattle.si_verilog_reader.specs.declared.comments.Region.TheVariants as held

abbrev pub region_now : Region → spec.Region
region_now held.Code = spec.Code
region_now held.Escaped = spec.Escaped
region_now held.OfLine = spec.OfLine
region_now held.Opening = spec.Opening
region_now held.OfBlock = spec.OfBlock
region_now held.Star = spec.Star
