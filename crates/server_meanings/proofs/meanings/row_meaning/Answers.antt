use Rattle.server_meanings.specs.Grammar.{row}
use Rattle.server_meanings.proofs.meanings.row_meaning.Goals as goal

pub returns-in-Readlink-clause-reads : goal.returns-in-Readlink-clause-reads
unfolding row
returns-in-Readlink-clause-reads g c = rw c.in-Readlink.is (λ room. c.header_row.ensures.reads room)

pub returns-in-Statfs-clause-reads : goal.returns-in-Statfs-clause-reads
unfolding row
returns-in-Statfs-clause-reads g c = rw c.in-Statfs.is (λ room. c.header_row-in-Statfs.ensures.reads room)

pub returns-in-Getlk-clause-reads : goal.returns-in-Getlk-clause-reads
unfolding row
returns-in-Getlk-clause-reads g c = rw c.in-Getlk.is (λ room. c.header_row-in-Getlk.ensures.reads room)

pub returns-in-Setlk-clause-reads : goal.returns-in-Setlk-clause-reads
unfolding row
returns-in-Setlk-clause-reads g c = rw c.in-Setlk.is (λ room. c.header_row-in-Setlk.ensures.reads room)

pub returns-in-Setlkw-clause-reads : goal.returns-in-Setlkw-clause-reads
unfolding row
returns-in-Setlkw-clause-reads g c = rw c.in-Setlkw.is (λ room. c.header_row-in-Setlkw.ensures.reads room)

pub returns-in-Bmap-clause-reads : goal.returns-in-Bmap-clause-reads
unfolding row
returns-in-Bmap-clause-reads g c = rw c.in-Bmap.is (λ room. c.header_row-in-Bmap.ensures.reads room)

pub returns-in-Destroy-clause-reads : goal.returns-in-Destroy-clause-reads
unfolding row
returns-in-Destroy-clause-reads g c = rw c.in-Destroy.is (λ room. c.header_row-in-Destroy.ensures.reads room)

pub returns-in-Ioctl-clause-reads : goal.returns-in-Ioctl-clause-reads
unfolding row
returns-in-Ioctl-clause-reads g c = rw c.in-Ioctl.is (λ room. c.header_row-in-Ioctl.ensures.reads room)

pub returns-in-Poll-clause-reads : goal.returns-in-Poll-clause-reads
unfolding row
returns-in-Poll-clause-reads g c = rw c.in-Poll.is (λ room. c.header_row-in-Poll.ensures.reads room)

pub returns-in-NotifyReply-clause-reads : goal.returns-in-NotifyReply-clause-reads
unfolding row
returns-in-NotifyReply-clause-reads g c = rw c.in-NotifyReply.is (λ room. c.header_row-in-NotifyReply.ensures.reads room)

pub returns-in-Syncfs-clause-reads : goal.returns-in-Syncfs-clause-reads
unfolding row
returns-in-Syncfs-clause-reads g c = rw c.in-Syncfs.is (λ room. c.header_row-in-Syncfs.ensures.reads room)

pub returns-in-TmpFile-clause-reads : goal.returns-in-TmpFile-clause-reads
unfolding row
returns-in-TmpFile-clause-reads g c = rw c.in-TmpFile.is (λ room. c.header_row-in-TmpFile.ensures.reads room)
