use Rattle.cycle_watch.proofs.Places.{inorder_side_shows, time_shows}
use Rattle.cycle_watch.proofs.laws.sides_show_the_machines.Goals as goal

pub returns : goal.returns
returns c = record { window = time_shows; inorder = inorder_side_shows }
