-- Both passes put the same text.
use Rattle.writer.proofs.write_whole.Given as goal

abbrev pub ghost-length_of : goal.ghost-length_of
ghost-length_of g a = g.s

abbrev pub ghost-write_fitting : goal.ghost-write_fitting
ghost-write_fitting g a = g.s
