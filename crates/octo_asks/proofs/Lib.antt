mod JobFiles
