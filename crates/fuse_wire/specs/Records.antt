-- The records of replies, notifications and extensions (linux/fuse.h). A record that the server
-- reads is given by its shape, another by its fields.
use Rattle.std.specs.Prelude.{List, [], ◌++◌, ◌∷◌}
use Rattle.vm_values.specs.Fields.{Field, d, ds, i, l, q, w}
use Rattle.fuse_base.specs.Records.{attr, file_lock, kstatfs}
use Rattle.fuse_in.specs.Shapes.{RecordShape, u32, u64, ◌&◌, end}
use Rattle.fuse_wire.specs.declared.replies.OutHeader.{OutHeader}
use Rattle.fuse_wire.specs.declared.replies.StatfsOut.{StatfsOut}
use Rattle.fuse_wire.specs.declared.replies.EntryOut.{EntryOut}
use Rattle.fuse_wire.specs.declared.replies.AttrOut.{AttrOut}
use Rattle.fuse_wire.specs.declared.replies.OpenOut.{OpenOut}
use Rattle.fuse_wire.specs.declared.replies.WriteOut.{WriteOut}
use Rattle.fuse_wire.specs.declared.replies.GetxattrOut.{GetxattrOut}
use Rattle.fuse_wire.specs.declared.replies.LkOut.{LkOut}
use Rattle.fuse_wire.specs.declared.replies.InitOut.{InitOut}
use Rattle.fuse_wire.specs.declared.replies.LseekOut.{LseekOut}
use Rattle.fuse_wire.specs.declared.replies.Dirent.{Dirent}
use Rattle.fuse_wire.specs.declared.replies.Direntplus.{Direntplus}
use Rattle.fuse_wire.specs.declared.others.ForgetOne.{ForgetOne}
use Rattle.fuse_wire.specs.declared.others.RemovemappingOne.{RemovemappingOne}
use Rattle.fuse_wire.specs.declared.others.BmapOut.{BmapOut}
use Rattle.fuse_wire.specs.declared.others.IoctlIovec.{IoctlIovec}
use Rattle.fuse_wire.specs.declared.others.IoctlOut.{IoctlOut}
use Rattle.fuse_wire.specs.declared.others.PollOut.{PollOut}
use Rattle.fuse_wire.specs.declared.others.ExtHeader.{ExtHeader}
use Rattle.fuse_wire.specs.declared.others.Secctx.{Secctx}
use Rattle.fuse_wire.specs.declared.others.SecctxHeader.{SecctxHeader}
use Rattle.fuse_wire.specs.declared.others.SuppGroups.{SuppGroups}
use Rattle.fuse_wire.specs.declared.notices.NotifyPollWakeupOut.{NotifyPollWakeupOut}
use Rattle.fuse_wire.specs.declared.notices.NotifyInvalInodeOut.{NotifyInvalInodeOut}
use Rattle.fuse_wire.specs.declared.notices.NotifyInvalEntryOut.{NotifyInvalEntryOut}
use Rattle.fuse_wire.specs.declared.notices.NotifyDeleteOut.{NotifyDeleteOut}
use Rattle.fuse_wire.specs.declared.notices.NotifyStoreOut.{NotifyStoreOut}
use Rattle.fuse_wire.specs.declared.notices.Notify_Retrieve_Out.{Notify_Retrieve_Out}

-- struct fuse_out_header, 16 bytes
abbrev pub out_header : OutHeader → List Field
out_header r = d r.len ∷ i r.error ∷ q r.unique ∷ []

-- struct fuse_statfs_out, 80 bytes
abbrev pub statfs_out : StatfsOut → List Field
statfs_out r = kstatfs r.st

-- struct fuse_entry_out, 128 bytes
abbrev pub entry_out : EntryOut → List Field
entry_out r =
    q r.nodeid ∷ q r.generation ∷ q r.entry_valid ∷ q r.attr_valid ∷ d r.entry_valid_nsec
    ∷ d r.attr_valid_nsec ∷ attr r.attr

-- struct fuse_attr_out, 104 bytes
abbrev pub attr_out : AttrOut → List Field
attr_out r = q r.attr_valid ∷ d r.attr_valid_nsec ∷ d r.dummy ∷ attr r.attr

-- struct fuse_open_out, 16 bytes
abbrev pub open_out : OpenOut → List Field
open_out r = q r.fh ∷ d r.open_flags ∷ d r.padding ∷ []

-- struct fuse_write_out, 8 bytes
abbrev pub write_out : WriteOut → List Field
write_out r = d r.size ∷ d r.padding ∷ []

-- struct fuse_getxattr_out, 8 bytes
abbrev pub getxattr_out : GetxattrOut → List Field
getxattr_out r = d r.size ∷ d r.padding ∷ []

-- struct fuse_lk_out, 24 bytes
abbrev pub lk_out : LkOut → List Field
lk_out r = file_lock r.lk

-- struct fuse_init_out, 64 bytes
abbrev pub init_out : InitOut → List Field
init_out r =
    d r.major ∷ d r.minor ∷ d r.max_readahead ∷ d r.flags ∷ w r.max_background ∷ w r.congestion_threshold
    ∷ d r.max_write ∷
    d r.time_gran ∷ w r.max_pages ∷ w r.map_alignment ∷ d r.flags2 ∷ ds 7 r.unused ∷ []

-- struct fuse_lseek_out, 8 bytes
abbrev pub lseek_out : LseekOut → List Field
lseek_out r = q r.offset ∷ []

-- struct fuse_dirent, 24 bytes
abbrev pub dirent : Dirent → List Field
dirent r = q r.ino ∷ q r.off ∷ d r.namelen ∷ d r.type_ ∷ []

-- struct fuse_direntplus, 152 bytes
abbrev pub direntplus : Direntplus → List Field
direntplus r = entry_out r.entry_out ++ dirent r.dirent

-- struct fuse_forget_one, 16 bytes
abbrev pub forget_one : RecordShape ForgetOne
forget_one = record {
  parts = u64 ∷ u64 ∷ [];
  make = λ nodeid nlookup. record { nodeid = nodeid; nlookup = nlookup };
  shows = λ r. r.nodeid & r.nlookup & end;
}

-- struct fuse_removemapping_one, 16 bytes
abbrev pub removemapping_one : RemovemappingOne → List Field
removemapping_one r = q r.moffset ∷ q r.len ∷ []

-- struct fuse_bmap_out, 8 bytes
abbrev pub bmap_out : BmapOut → List Field
bmap_out r = q r.block ∷ []

-- struct fuse_ioctl_iovec, 16 bytes
abbrev pub ioctl_iovec : IoctlIovec → List Field
ioctl_iovec r = q r.base ∷ q r.len ∷ []

-- struct fuse_ioctl_out, 16 bytes
abbrev pub ioctl_out : IoctlOut → List Field
ioctl_out r = i r.result ∷ d r.flags ∷ d r.in_iovs ∷ d r.out_iovs ∷ []

-- struct fuse_poll_out, 8 bytes
abbrev pub poll_out : PollOut → List Field
poll_out r = d r.revents ∷ d r.padding ∷ []

-- struct fuse_ext_header, 8 bytes
abbrev pub ext_header : RecordShape ExtHeader
ext_header = record {
  parts = u32 ∷ u32 ∷ [];
  make = λ size ext_type. record { size = size; ext_type = ext_type };
  shows = λ r. r.size & r.ext_type & end;
}

-- struct fuse_secctx, 8 bytes
abbrev pub secctx : RecordShape Secctx
secctx = record {
  parts = u32 ∷ u32 ∷ [];
  make = λ size padding. record { size = size; padding = padding };
  shows = λ r. r.size & r.padding & end;
}

-- struct fuse_secctx_header, 8 bytes
abbrev pub secctx_header : SecctxHeader → List Field
secctx_header r = d r.size ∷ d r.nr_secctx ∷ []

-- struct fuse_supp_groups, 4 bytes
abbrev pub supp_groups : RecordShape SuppGroups
supp_groups = record {
  parts = u32 ∷ [];
  make = λ nr_groups. record { nr_groups = nr_groups };
  shows = λ r. r.nr_groups & end;
}

-- struct fuse_notify_poll_wakeup_out, 8 bytes
abbrev pub notify_poll_wakeup_out : NotifyPollWakeupOut → List Field
notify_poll_wakeup_out r = q r.kh ∷ []

-- struct fuse_notify_inval_inode_out, 24 bytes
abbrev pub notify_inval_inode_out : NotifyInvalInodeOut → List Field
notify_inval_inode_out r = q r.ino ∷ l r.off ∷ l r.len ∷ []

-- struct fuse_notify_inval_entry_out, 16 bytes
abbrev pub notify_inval_entry_out : NotifyInvalEntryOut → List Field
notify_inval_entry_out r = q r.parent ∷ d r.namelen ∷ d r.flags ∷ []

-- struct fuse_notify_delete_out, 24 bytes
abbrev pub notify_delete_out : NotifyDeleteOut → List Field
notify_delete_out r = q r.parent ∷ q r.child ∷ d r.namelen ∷ d r.padding ∷ []

-- struct fuse_notify_store_out, 24 bytes
abbrev pub notify_store_out : NotifyStoreOut → List Field
notify_store_out r = q r.nodeid ∷ q r.offset ∷ d r.size ∷ d r.padding ∷ []

-- struct fuse_notify_retrieve_out, 32 bytes
abbrev pub notify_retrieve_out : Notify_Retrieve_Out → List Field
notify_retrieve_out r = q r.notify_unique ∷ q r.nodeid ∷ q r.offset ∷ d r.size ∷ d r.padding ∷ []
