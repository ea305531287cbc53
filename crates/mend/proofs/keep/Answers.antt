use Rattle.mend.proofs.KeepLaws.{kept}
use Rattle.mend.proofs.keep.Goals as goal

pub returns : goal.returns
returns c = kept c.args.st.now _ c.copy_from_slice.ensures.after
