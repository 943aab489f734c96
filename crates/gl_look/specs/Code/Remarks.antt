-- Remarks as the code keeps them.
use Rattle.std.specs.Prelude.{Bool}
use Rattle.gl_look.specs.Keys.{is_open}
use Rattle.gl_look.specs.declared.remarks.Remark.{Remark}

-- a remark is that a key is still to be filled in
abbrev pub is_open_remark : Remark → Bool
is_open_remark remark = is_open remark.told
