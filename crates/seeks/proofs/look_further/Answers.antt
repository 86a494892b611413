use Rattle.seeks.proofs.Finding.{not-by, not_back, goes-forward, goes-backward, goes-deleting}
use Rattle.seeks.proofs.look_further.Goals as goal

pub returns-in-Forward : goal.returns-in-Forward
returns-in-Forward c =
    let l = c.look_on.ensures in
    record { keeps = l.keeps; long = l.long; looks = not-by _ _ _ _ _ (goes-forward _ c.in-Forward.is) l.looks }

pub returns-in-Backward : goal.returns-in-Backward
returns-in-Backward c =
    let l = c.look_back.ensures in
    record { keeps = l.keeps; long = l.long; looks = not_back _ _ _ _ _ (goes-backward _ c.in-Backward.is) l.looks }

pub returns-in-Deleting : goal.returns-in-Deleting
returns-in-Deleting c =
    let l = c.look_on-in-Deleting.ensures in
    record { keeps = l.keeps; long = l.long; looks = not-by _ _ _ _ _ (goes-deleting _ c.in-Deleting.is) l.looks }
