-- Wish 7, proved.
use Rattle.definitions.specs.Journal.{journal_bytes}
use Rattle.definitions.specs.Run.{run_answer, answer_records}
use Rattle.theorems.proofs.Demand3Proof.{demand3}
use Rattle.theorems.specs.ArrangedTest.{arranged-same}
use Rattle.theorems.specs.JoinParts.{join-stays, join-others, turn-stays, turn-others}
use Rattle.theorems.specs.JoinAnswers.{reads-records, reads-fine, reads_of, join-malformed, join-differ, join-agree, join-enough, join-reads, three-joined, three-accepted, turn_malformed, turn-answer, turn_enough, turn-reads, turn-again, join-old-side, join-new-side, turn-old-side, turn-new-side, kept_after, kept_before}
use Rattle.theorems.specs.OneJournal.{WishSeven}

-- WISH 7
pub wish-seven : WishSeven
wish-seven = record {
  from_old = join-old-side;
  to_new = join-new-side;
  joined = join-reads;
  stays = join-stays;
  others = join-others;
  turned = turn-reads;
  turned_old = turn-old-side;
  turned_new = turn-new-side;
  turned_stays = turn-stays;
  turned_others = turn-others;
  malformed = join-malformed;
  differ = join-differ;
  agree = join-agree;
  turn_malformed = turn_malformed;
  turn_arranged = turn-answer;
  enough = join-enough;
  turn_enough = turn_enough;
  three = λ j k l d e rs ss ts a b x y. three-joined j k l d e rs ss ts a b (join-enough j k d rs ss a x) (join-enough k l e ss ts b y);
  accepted = three-accepted;
  twice = turn-again;
  taken = reads_of;
  only = λ j rs p. (reads-records j rs p, arranged-same rs (reads-fine j rs p).arranged, (reads-fine j rs p).few_old, (reads-fine j rs p).few_new);
  runs = λ table script budget work size h few.
      let d = demand3 table script budget work size h in
      reads_of (journal_bytes (answer_records (run_answer table script budget work size))) (answer_records (run_answer table script budget work size)) d.reads_back d.arranged few;
  kept_after = kept_after;
  kept_before = kept_before;
}
