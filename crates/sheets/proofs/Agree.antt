-- Any two permitted answers agree, for each public function; of a slice that is handed back, where it lies and its bytes.
-- Assumes nothing.
use Rattle.laws.proofs.Agree.{agree, Agrees, AgreesPart}
use Rattle.octets.proofs.SliceLaws.{parts_agree}
use Rattle.sheets.proofs.good.proposal_ok as proposal-ok
use Rattle.sheets.proofs.good.answers_ok as answers-ok
use Rattle.sheets.proofs.good.site_ok as site-ok
use Rattle.sheets.proofs.good.field_ok as field-ok
use Rattle.sheets.proofs.record.record_of as record_of
use Rattle.sheets.proofs.record.cut as cut
use Rattle.sheets.proofs.record.cap_of as cap-of
use Rattle.sheets.proofs.record.abstract_at as abstract-at
use Rattle.sheets.proofs.record.transfer_at as transfer-at
use Rattle.sheets.proofs.record.goes_on as goes_on
use Rattle.sheets.proofs.record.same_run as same-run

pub proposal_ok_agrees : Agrees 1 proposal-ok.Kinds.ps proposal-ok.Kinds.r proposal-ok.Reads.Post
proposal_ok_agrees κs args a b x y p q = agree p q

pub answers_ok_agrees : Agrees 1 answers-ok.Kinds.ps answers-ok.Kinds.r answers-ok.Reads.Post
answers_ok_agrees κs args a b x y p q = agree p q

pub site_ok_agrees : Agrees 1 site-ok.Kinds.ps site-ok.Kinds.r site-ok.Reads.Post
site_ok_agrees κs args a b x y p q = agree p q

pub field_ok_agrees : Agrees 1 field-ok.Kinds.ps field-ok.Kinds.r field-ok.Reads.Post
field_ok_agrees κs args a b x y p q = agree p q

pub cap_of_agrees : Agrees 0 cap-of.Kinds.ps cap-of.Kinds.r cap-of.Reads.Post
cap_of_agrees κs args a b x y p q = agree p.0 q.0

pub cut_agrees : AgreesPart 1 cut.Kinds.ps cut.Kinds.r cut.Reads.Post (λ κs a. a)
cut_agrees κs args a b x y p q = parts_agree p q

pub record_of_agrees : Agrees 2 record_of.Kinds.ps record_of.Kinds.r record_of.Reads.Post
record_of_agrees κs args a b x y p q = agree p q

pub same_run_agrees : Agrees 2 same-run.Kinds.ps same-run.Kinds.r same-run.Reads.Post
same_run_agrees κs args a b x y p q = agree p q

pub goes_on_agrees : Agrees 1 goes_on.Kinds.ps goes_on.Kinds.r goes_on.Reads.Post
goes_on_agrees κs args a b x y p q = agree p q

pub abstract_at_agrees : AgreesPart 1 abstract-at.Kinds.ps abstract-at.Kinds.r abstract-at.Reads.Post (λ κs a. a)
abstract_at_agrees κs args a b x y p q = parts_agree p q

pub transfer_at_agrees : AgreesPart 1 transfer-at.Kinds.ps transfer-at.Kinds.r transfer-at.Reads.Post (λ κs a. a)
transfer_at_agrees κs args a b x y p q = parts_agree p q
