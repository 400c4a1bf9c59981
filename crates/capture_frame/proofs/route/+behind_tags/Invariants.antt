use Rattle.capture_frame.proofs.route.+behind_tags.Given as goal

abbrev pub decreases-behind_tags : goal.decreases-behind_tags
decreases-behind_tags l = l.most
