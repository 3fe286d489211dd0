use Rattle.std.proofs.Common.{length}
use Rattle.sheet.proofs.Printed.{prints_or}
use Rattle.sheet.proofs.output.nofjerm_plan_sheet.Goals as goal

pub returns : goal.returns
returns c = prints_or (length c.args.out.now) c.unwrap_or.result c.args.sheet.now c.args.out.now c.print_sheet.new.out c.in-Ok.answer c.in-Ok.ensures c.unwrap_or.ensures
