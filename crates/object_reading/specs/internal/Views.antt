-- Contents as they stand in a file.
use Rattle.object_modules.specs.Parts.{Content}
use Rattle.object_reading.specs.declared.entries.content.Content.{Content as CodeContent}

abbrev pub content_view : CodeContent → Content
content_view content = record { segment = content.segment; offset = content.offset; bytes = content.bytes.now }
