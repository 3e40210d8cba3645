-- What the cursor of a walk has not handed out yet.
use Rattle.std.specs.Prelude.{List, ◌++◌}
use Rattle.object_modules.specs.declared.segment.Fix.{Fix}
use Rattle.object_modules.specs.Before.{leading_fixes}
use Rattle.object_modules.specs.internal.Walks.{parts_from}
use Rattle.object_reading.specs.internal.Fixes.{fixes_in}
use Rattle.object_reading.specs.declared.walks.cursor_fixes.FixCursor.{FixCursor}

-- the fixes of the entries that are left, and those of the fix records that follow
abbrev pub fixes_left : FixCursor → List Fix
fixes_left cursor =
    fixes_in cursor.target cursor.kind cursor.entries.now
    ++ leading_fixes cursor.own (parts_from cursor.rest.now)
