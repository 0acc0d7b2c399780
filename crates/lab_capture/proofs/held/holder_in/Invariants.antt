use Rattle.sorted_lists.specs.SortedList.{keys}
use Rattle.lab_capture.proofs.held.holder_in.Given as goal

abbrev pub ghost-of : goal.ghost-of
ghost-of a = keys a.holder.now.store
