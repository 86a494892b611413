use Rattle.vectors.specs.Cases.{read_to}
use Rattle.vectors.proofs.sides.read.Goals as goal

pub returns-in-Old : goal.returns-in-Old
unfolding read_to
returns-in-Old c =
    let e = c.zed_old_side.ensures in
    rw c.in-Old.is (record { value = e.number; len_after = e.length; dest_after = e.bytes })

pub returns-in-New : goal.returns-in-New
unfolding read_to
returns-in-New c =
    let e = c.zed_new_side.ensures in
    rw c.in-New.is (record { value = e.number; len_after = e.length; dest_after = e.bytes })

pub returns-in-Listing : goal.returns-in-Listing
unfolding read_to
returns-in-Listing c =
    let e = c.zed_listing.ensures in
    rw c.in-Listing.is (record { value = e.number; len_after = e.length; dest_after = e.bytes })
