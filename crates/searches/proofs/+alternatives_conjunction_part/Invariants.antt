-- `searches::alternatives`, `searches::conjunction` and `searches::part`, which call each other, meet their contracts. Assumes nothing.
use Prim.Native.Nat.{◌+◌, ◌-◌, ◌*◌}
use lib.ListN.{length}
use Rattle.definitions.specs.Strings.{alternatives, more_alternatives, conjunction, more_conjunction}
use Rattle.searches.proofs.Joining.{Joined}
use Rattle.searches.proofs.+alternatives_conjunction_part.Given as goal

abbrev pub decreases-alternatives : goal.decreases-alternatives
decreases-alternatives l = 3 * (length l.s.now - l.at) + 2

abbrev pub decreases-conjunction : goal.decreases-conjunction
decreases-conjunction l = 3 * (length l.s.now - l.at) + 1

abbrev pub decreases-part : goal.decreases-part
decreases-part l = 3 * (length l.s.now - l.at)

abbrev pub invariant-alternatives-loop-next : goal.invariant-alternatives-loop-next
invariant-alternatives-loop-next l =
    Joined l.s l.initial.w l.w l.at l.k (3 * (length l.s - l.at) + 3) (λ n c. alternatives n l.deep c) (λ n se c. more_alternatives n l.deep se c) l.left.next l.left.value

abbrev pub decreases-alternatives-loop-next : goal.decreases-alternatives-loop-next
decreases-alternatives-loop-next l = length l.s - l.left.next

abbrev pub invariant-conjunction-loop-next : goal.invariant-conjunction-loop-next
invariant-conjunction-loop-next l =
    Joined l.s l.initial.w l.w l.at l.k (3 * (length l.s - l.at) + 2) (λ n c. conjunction n l.deep c) (λ n se c. more_conjunction n l.deep se c) l.left.next l.left.value

abbrev pub decreases-conjunction-loop-next : goal.decreases-conjunction-loop-next
decreases-conjunction-loop-next l = length l.s - l.left.next
