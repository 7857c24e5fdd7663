use Rattle.powercut.proofs.print_four.Given as goal

abbrev pub invariant-loop-i : goal.invariant-loop-i
invariant-loop-i g l = (g.S.Storage.means l.card).in_order
