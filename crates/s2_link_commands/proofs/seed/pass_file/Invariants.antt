use Rattle.std.proofs.Common.{◌≡◌}
use Rattle.s2_link_commands.proofs.seed.pass_file.Given as goal

-- no read failed
abbrev pub invariant-blocks-2 : goal.invariant-blocks-2
invariant-blocks-2 g l = g.I.Counted.count l.file ≡ g.I.Counted.count l.fn.file
