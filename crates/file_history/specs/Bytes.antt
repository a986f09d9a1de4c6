-- The bytes that a file's log says.
use Rattle.std.specs.Prelude.{ℕ, ◌+◌, ◌-◌, List, [], ◌∷◌, ◌++◌, length, take, drop, replicate}
use Rattle.file_history.specs.declared.entry.FileEvent.{FileEvent}
use Rattle.file_history.specs.declared.entry.FileEvent.TheVariants.{Created, Deleted, Written, Shown, LevelSet, Placed, Dead, Barred, Cleared, Marked, Refused}
use Rattle.file_history.specs.declared.entry.NotedEntry.{NotedEntry}

-- the bytes with these put at the offset, after zeros where the old ones end before it
abbrev pub overwrite : List ℕ → ℕ → List ℕ → List ℕ
overwrite old offset bytes =
    take offset (old ++ replicate (offset - length old) 0) ++ bytes ++ drop (offset + length bytes) old

-- the bytes after an event with this payload, where these were before
abbrev pub bytes_after_event : FileEvent → List ℕ → List ℕ → List ℕ
bytes_after_event (Created inode) payload old = []
bytes_after_event Deleted payload old = []
bytes_after_event (Written offset len size change) payload old = overwrite old offset payload
bytes_after_event (Shown offset len bytes) payload old = old
bytes_after_event (LevelSet level) payload old = old
bytes_after_event (Placed job change) payload old = old
bytes_after_event (Dead generation position) payload old = old
bytes_after_event (Barred job drives) payload old = old
bytes_after_event (Cleared job drives) payload old = old
bytes_after_event (Marked job count) payload old = old
bytes_after_event (Refused why) payload old = old

abbrev pub bytes_from : List NotedEntry → List ℕ → List ℕ
bytes_from [] old = old
bytes_from (t ∷ ts) old = bytes_from ts (bytes_after_event t.entry.event t.payload old)

-- the bytes of the file after the log
abbrev pub bytes_after : List NotedEntry → List ℕ
bytes_after log = bytes_from log []

-- the bytes of a range, cut at the end
abbrev pub slice_of : List ℕ → ℕ → ℕ → List ℕ
slice_of bytes offset len = take len (drop offset bytes)
